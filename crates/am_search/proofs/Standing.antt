-- A state stands for a history, and goes on standing for one.
use Rattle.std.specs.Prelude.{ℕ, ◌≡◌, Some, nat_lt, false, Bool, None, List, ◌≢◌, [], ◌∷◌, ◌<◌, ◌+◌, ◌≤◌, ◌++◌, if◌then◌else◌}
use Rattle.std.proofs.Common.{arith, ap, refl, subst, sym, ◌∙◌, append-nil, append_assoc}
use Rattle.std.proofs.lemmas.Bool.Decides.{nat_tests}
use Rattle.am_clause.specs.declared.row.Row.{Row}
use Rattle.am_search.specs.Outcomes.{due_kind, advance_by, StandsFor, advanced, Outcomes, last_number}
use Rattle.am_search.specs.Plain.{Due, end_by, Infers, Chooses, Ends, Reading, after, Infer, due_at, due_of, wait_of, Pick, reading_at, Start, due, Then, picked_at, Choose, lists_shown, entries_of}
use Rattle.am_search.specs.Rules.{Rules}
use Rattle.am_simplify.specs.NormalStep.{goes}
use Rattle.am_agenda.specs.declared.wait_row.WaitRow.{WaitRow}
use Rattle.am_search.specs.declared.fate.End.{End}
use Rattle.am_search.specs.declared.fate.End.TheVariants.{Spent}
use Rattle.am_search.specs.declared.fate.Entry.{Entry}
use Rattle.am_search.specs.declared.fate.Kind.TheVariants.{Ending, Inferring, Choosing}
use Rattle.am_search.specs.declared.fate.Stage.{Stage}
use Rattle.am_search.specs.declared.fate.Stage.TheVariants.{Ended, Makes, Closes, Quiet}

-- what has the kind of an end is that end
ends_kind : (limit made : ℕ) (d : Due) (end : End) → due_kind d ≡ Ending end → end_by limit made d ≡ Some end
ends_kind limit made (Infers row) end is = cc
ends_kind limit made Chooses end is = cc
ends_kind limit made (Ends e) end is = cc

spent_kind : (limit made : ℕ) (d : Due) → due_kind d ≡ Inferring → made ≡ limit → end_by limit made d ≡ Some Spent
spent_kind limit made (Infers row) is all =
    let isnt : nat_lt made limit ≡ false = grind (arith, nat_tests) in
    ap (λ (b : Bool). if b then None else Some Spent) isnt
spent_kind limit made Chooses is all = cc
spent_kind limit made (Ends e) is all = cc

pub due_by : (c : Rules) (v w : Reading) (d : Due) → due_kind d ≡ Inferring → w ≡ advance_by c v d → (row : Row) × (d ≡ Infers row) × (w ≡ after c (Infer row) v)
due_by c v w (Infers row) is goes = (row, refl, goes)
due_by c v w Chooses is goes = absurd (cc)
due_by c v w (Ends e) is goes = absurd (cc)

pub chooses_by : (d : Due) → due_kind d ≡ Choosing → d ≡ Chooses
chooses_by (Infers row) is = cc
chooses_by Chooses is = refl
chooses_by (Ends e) is = cc

some_wait : (waits : List WaitRow) (rs : List Row) (stage : Stage) → due_kind (due_at waits rs stage) ≡ Choosing → waits ≢ []
some_wait (w ∷ ws) rs stage is = λ e. cc
some_wait [] rs (Ended b) is = λ e. cc
some_wait [] rs (Makes row) is = λ e. cc
some_wait [] rs (Closes row) is = λ e. cc
some_wait [] [] Quiet is = λ e. cc
some_wait [] (r ∷ rs) Quiet is = λ e. cc

-- where a choice is due, some row waits
pub waits_some : (c : Rules) (v : Reading) (waits : List WaitRow) → due_kind (due_of c v) ≡ Choosing → waits ≡ wait_of c v → waits ≢ []
waits_some c v waits is are = subst (λ (ws : List WaitRow). ws ≢ []) (sym are) (some_wait (wait_of c v) v.rest v.judged.stage is)

-- at first
pub stands_start : (c : Rules) (start : List Row) (limit : ℕ) (first : Pick) (v : Reading) → v ≡ reading_at c start Start → StandsFor c start limit first v 0 first
stands_start c start limit first v is = record {
  history = Start;
  reads = sym is;
  follows = tt;
  picked = tt;
  counts = refl;
  few = omega arith;
  next = λ past list. refl;
}

-- the same reading
pub stands_same : (c : Rules) (start : List Row) (limit : ℕ) (first : Pick) (v w : Reading) (made : ℕ) (now : Pick) → StandsFor c start limit first v made now → w ≡ v → StandsFor c start limit first w made now
stands_same c start limit first v w made now s is = record {
  history = s.history;
  reads = s.reads ∙ sym is;
  follows = s.follows;
  picked = s.picked;
  counts = s.counts;
  few = s.few;
  next = s.next;
}

stands_infer : (c : Rules) (start : List Row) (limit : ℕ) (first : Pick) (v w : Reading) (made : ℕ) (now : Pick) (row : Row)
    → StandsFor c start limit first v made now → due_of c v ≡ Infers row → made < limit → w ≡ after c (Infer row) v → StandsFor c start limit first w (made + 1) now
stands_infer c start limit first v w made now row s due few is = record {
  history = Then s.history (Infer row);
  reads = ap (after c (Infer row)) s.reads ∙ sym is;
  follows = (ap (due_of c) s.reads ∙ due, s.follows);
  picked = s.picked;
  counts = ap (λ n. n + 1) s.counts;
  few = omega arith;
  next = s.next;
}

-- after an inference
pub infers_on : (c : Rules) (start : List Row) (limit : ℕ) (first : Pick) (v w : Reading) (made : ℕ) (now : Pick)
    → StandsFor c start limit first v made now → due_kind (due_of c v) ≡ Inferring → made ≢ limit → w ≡ advanced c v → StandsFor c start limit first w (made + 1) now
infers_on c start limit first v w made now s is isnt goes =
    let r = due_by c v w (due_of c v) is goes in
    let few : made ≤ limit = s.few in
    stands_infer c start limit first v w made now r.0 s r.1 (omega arith) r.2

-- after a choice
pub chooses_on : (c : Rules) (start : List Row) (limit : ℕ) (first : Pick) (v w : Reading) (made n : ℕ) (now next : Pick) (waits : List WaitRow)
    → StandsFor c start limit first v made now → due_kind (due_of c v) ≡ Choosing → waits ≡ wait_of c v
    → picked_at waits (now [] waits) ≡ Some n
    → ((past : List (List WaitRow)) (list : List WaitRow) → next past list ≡ now (waits ∷ past) list)
    → w ≡ after c (Choose n) v
    → StandsFor c start limit first w made next
chooses_on c start limit first v w made n now next waits s is are picks goes after_ = record {
  history = Then s.history (Choose n);
  reads = ap (after c (Choose n)) s.reads ∙ sym after_;
  follows = (ap (due_of c) s.reads ∙ chooses_by (due_of c v) is, s.follows);
  picked = (
    ap (λ r. picked_at (wait_of c r) (first (lists_shown c start s.history) (wait_of c r))) s.reads
        ∙ ap (λ p. picked_at (wait_of c v) (first p (wait_of c v))) (sym (append-nil (lists_shown c start s.history)))
        ∙ ap (picked_at (wait_of c v)) (sym (s.next [] (wait_of c v)))
        ∙ ap (λ ws. picked_at ws (now [] ws)) (sym are) ∙ picks,
    s.picked,
  );
  counts = s.counts;
  few = s.few;
  next = λ past list. goes past list ∙ ap (λ ws. now (ws ∷ past) list) are ∙ s.next (wait_of c v ∷ past) list
      ∙ ap (λ p. first p list) (sym (append_assoc (lists_shown c start s.history) (wait_of c v ∷ []) past) ∙ ap (λ r. (lists_shown c start s.history ++ wait_of c r ∷ []) ++ past) (sym s.reads));
}

-- what is answered: four parts of an outcome
pub record Answered (c : Rules) (v : Reading) (end : End) (last : End) (all : List Row) (made : List Entry) (chosen : List ℕ) (n_ : ℕ) : Type 0 where
  pub end_is : last ≡ end
  pub rows_are : all ≡ v.rows
  pub entries_are : made ≡ entries_of c v.rows v.judged.fates
  pub choices_are : chosen ≡ v.choices
  pub last_is : n_ ≡ last_number v.judged.fates

ended : (c : Rules) (start : List Row) (limit : ℕ) (first : Pick) (v : Reading) (made : ℕ) (now : Pick) (end last : End) (all : List Row) (es : List Entry) (chosen : List ℕ) (n_ : ℕ)
    → (s : StandsFor c start limit first v made now) → end_by limit made (due_of c v) ≡ Some end → Answered c v end last all es chosen n_ → Outcomes c start limit first last all es chosen n_
ended c start limit first v made now end last all es chosen n_ s is a = record {
  history = s.history;
  plain = record {
    follows = s.follows;
    few = subst (λ (n : ℕ). n ≤ limit) (sym s.counts) s.few;
    ends = ap (λ n. end_by limit n (due c start s.history)) s.counts ∙ ap (λ w. end_by limit made (due_of c w)) s.reads ∙ is ∙ ap Some (sym a.end_is);
  };
  picked = s.picked;
  rows_are = ap (λ (w : Reading). w.rows) s.reads ∙ sym a.rows_are;
  entries_are = ap (λ (w : Reading). entries_of c w.rows w.judged.fates) s.reads ∙ sym a.entries_are;
  choices_are = ap (λ (w : Reading). w.choices) s.reads ∙ sym a.choices_are;
  last_is = ap (λ (w : Reading). last_number w.judged.fates) s.reads ∙ sym a.last_is;
}

-- the end that is due
pub ends_so : (c : Rules) (start : List Row) (limit : ℕ) (first : Pick) (v : Reading) (made : ℕ) (now : Pick) (end last : End) (all : List Row) (es : List Entry) (chosen : List ℕ) (n_ : ℕ)
    → StandsFor c start limit first v made now → due_kind (due_of c v) ≡ Ending end → Answered c v end last all es chosen n_ → Outcomes c start limit first last all es chosen n_
ends_so c start limit first v made now end last all es chosen n_ s is a = ended c start limit first v made now end last all es chosen n_ s (ends_kind limit made (due_of c v) end is) a

-- the budget is spent
pub spent_so : (c : Rules) (start : List Row) (limit : ℕ) (first : Pick) (v : Reading) (made : ℕ) (now : Pick) (last : End) (all : List Row) (es : List Entry) (chosen : List ℕ) (n_ : ℕ)
    → StandsFor c start limit first v made now → due_kind (due_of c v) ≡ Inferring → made ≡ limit → Answered c v Spent last all es chosen n_ → Outcomes c start limit first last all es chosen n_
spent_so c start limit first v made now last all es chosen n_ s is all_ a = ended c start limit first v made now Spent last all es chosen n_ s (spent_kind limit made (due_of c v) is all_) a
