-- A search as a loop of turns.
use Rattle.std.specs.Prelude.{List, ◌≡◌, ℕ, ◌++◌, ◌∷◌, Some, []}
use Rattle.std.proofs.Common.{subst, inl, inr, ap, ◌∙◌, sym, append-nil, append_assoc}
use Rattle.am_clause.specs.declared.row.Row.{Row}
use Rattle.am_search.proofs.Standing.{Answered, ends_so, spent_so}
use Rattle.am_search.specs.Outcomes.{StandsFor, due_kind, Outcomes}
use Rattle.am_search.specs.Plain.{Pick, History, Picked, Start, Then, Infer, Choose, lists_shown, Reading, wait_of, picked_at, wait_list, due_of}
use Rattle.am_search.specs.Rules.{Rules}
use Rattle.am_search.specs.Searching.{GoesOn, StandsAt, Run, TurnOf, StopsInferring}
use Rattle.am_simplify.specs.NormalStep.{goes}
use Rattle.am_agenda.specs.declared.wait_row.WaitRow.{WaitRow}
use Rattle.am_search.specs.declared.fate.End.{End}
use Rattle.am_search.specs.declared.fate.End.TheVariants.{Found, Contradiction, Exhausted, Spent}
use Rattle.am_search.specs.declared.fate.Entry.{Entry}
use Rattle.am_search.specs.declared.searcher.Turned.{Turned}
use Rattle.am_search.specs.declared.searcher.Turned.TheVariants.{Over}

goes_picked : (pick : Pick) (c : Rules) (start : List Row) (h k : History) → GoesOn h k → Picked pick c start h → Picked pick c start k
goes_picked pick c start h Start g p = subst (λ (x : History). Picked pick c start x) g p
goes_picked pick c start h (Then k (Infer row)) (inl g) p = subst (λ (x : History). Picked pick c start x) g p
goes_picked pick c start h (Then k (Infer row)) (inr g) p = goes_picked pick c start h k g p
goes_picked pick c start h (Then k (Choose n)) g p = subst (λ (x : History). Picked pick c start x) g p

goes_shown : (c : Rules) (start : List Row) (h k : History) → GoesOn h k → lists_shown c start h ≡ lists_shown c start k
goes_shown c start h Start g = ap (lists_shown c start) g
goes_shown c start h (Then k (Infer row)) (inl g) = ap (lists_shown c start) g
goes_shown c start h (Then k (Infer row)) (inr g) = goes_shown c start h k g
goes_shown c start h (Then k (Choose n)) g = ap (lists_shown c start) g

pub at_of : (c : Rules) (start : List Row) (limit : ℕ) (first : Pick) (v : Reading) (made : ℕ) (now : Pick) → (s : StandsFor c start limit first v made now) → StandsAt c start limit s.history v made
at_of c start limit first v made now s = record { reads = s.reads; follows = s.follows; counts = s.counts; few = s.few }

-- after the inferences from the start
pub stands_run : (c : Rules) (start : List Row) (limit : ℕ) (first : Pick) (w : Reading) (made : ℕ) → Run c start limit Start w made → StandsFor c start limit first w made first
stands_run c start limit first w made r = record {
  history = r.history;
  reads = r.stands.reads;
  follows = r.stands.follows;
  picked = goes_picked first c start Start r.history r.goes_on tt;
  counts = r.stands.counts;
  few = r.stands.few;
  next = λ past list. ap (λ (shown_ : List (List WaitRow)). first (shown_ ++ past) list) (goes_shown c start Start r.history r.goes_on);
}

-- after a turn
pub stands_turn : (c : Rules) (start : List Row) (limit : ℕ) (first : Pick) (v w : Reading) (made after_made : ℕ) (now next : Pick) (turned : Turned)
    → (s : StandsFor c start limit first v made now) → TurnOf c start limit now s.history v w after_made turned
    → ((past : List (List WaitRow)) (list : List WaitRow) → next past list ≡ now (wait_of c v ∷ past) list)
    → StandsFor c start limit first w after_made next
stands_turn c start limit first v w made after_made now next turned s t goes =
    let h : History = s.history in
    let r : Run c start limit (Then h (Choose t.chosen)) w after_made = t.runs.run in
    let chosen_ : picked_at (wait_list c start h) (first (lists_shown c start h) (wait_list c start h)) ≡ Some t.chosen =
    ap (λ x. picked_at (wait_of c x) (first (lists_shown c start h) (wait_of c x))) s.reads
    ∙ ap (λ p. picked_at (wait_of c v) (first p (wait_of c v))) (sym (append-nil (lists_shown c start h)))
    ∙ ap (picked_at (wait_of c v)) (sym (s.next [] (wait_of c v))) ∙ t.picked in
    record {
      history = r.history;
      reads = r.stands.reads;
      follows = r.stands.follows;
      picked = goes_picked first c start (Then h (Choose t.chosen)) r.history r.goes_on (chosen_, s.picked);
      counts = r.stands.counts;
      few = r.stands.few;
      next = λ past list. goes past list ∙ s.next (wait_of c v ∷ past) list
          ∙ ap (λ p. first p list) (sym (append_assoc (lists_shown c start h) (wait_of c v ∷ []) past) ∙ ap (λ x. (lists_shown c start h ++ wait_of c x ∷ []) ++ past) (sym s.reads))
          ∙ ap (λ (shown_ : List (List WaitRow)). first (shown_ ++ past) list) (goes_shown c start (Then h (Choose t.chosen)) r.history r.goes_on);
    }

-- the end of the last turn
pub over_so : (c : Rules) (start : List Row) (limit : ℕ) (first : Pick) (v : Reading) (made : ℕ) (now : Pick) (end last : End) (all : List Row) (es : List Entry) (chosen : List ℕ) (n_ : ℕ)
    → StandsFor c start limit first v made now → StopsInferring limit made (due_kind (due_of c v)) (Over end) → Answered c v end last all es chosen n_ → Outcomes c start limit first last all es chosen n_
over_so c start limit first v made now Found last all es chosen n_ s t a = ends_so c start limit first v made now Found last all es chosen n_ s t a
over_so c start limit first v made now Contradiction last all es chosen n_ s t a = ends_so c start limit first v made now Contradiction last all es chosen n_ s t a
over_so c start limit first v made now Exhausted last all es chosen n_ s t a = ends_so c start limit first v made now Exhausted last all es chosen n_ s t a
over_so c start limit first v made now Spent last all es chosen n_ s t a = spent_so c start limit first v made now last all es chosen n_ s t.0 t.1 a
