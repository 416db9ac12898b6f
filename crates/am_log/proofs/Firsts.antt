-- Where the first fault of a text stands, and of which kind it is.
use Rattle.std.proofs.Common.{◌≡◌, ◌≢◌, ◌<◌, ◌≤◌, ◌+◌, ◌⊎◌, ℕ, zero, suc, Bool, true, false, Option, Some, None, List, [], ◌∷◌, length, length-append, take, Result, Ok, Err, refl, sym, ap, ◌∙◌, arith, subst, inl, inr}
use Rattle.std.specs.Prelude.{codes, if◌then◌else◌}
use Rattle.std.specs.List.{sum_by}
use Rattle.std.specs.Str.{bytes_eq}
use Rattle.std.proofs.lemmas.List.Sums.{sum_by-cons}
use Rattle.std.proofs.lemmas.Slice.Eq.{bytes_eq-Decides}
use Rattle.am_term.specs.declared.id.SortId.{SortId}
use Rattle.am_term.specs.declared.signature.Signature.{Signature}
use Rattle.am_clause.specs.declared.row.Row.{Row}
use Rattle.am_theory.specs.declared.theory.Theory.{Theory}
use Rattle.am_diagram.specs.declared.diagram.Diagram.{Diagram}
use Rattle.am_diagram.specs.Listed.{entry_sorts}
use Rattle.am_log.specs.declared.fault.LogKind.{LogKind}
use Rattle.am_log.specs.declared.fault.LogKind.TheVariants.{NotProof, BadWrap, BadRow, BadNumber, UnknownName, BadSort, NoMemory}
use Rattle.am_log.specs.Answers.{group_row, row_before, rows_in, begins_proof, wrong_head, head_fault, at, rows_behind, log_answer}
use Rattle.am_log.specs.Cut.{pieced_together, wrapped, cut, cut_within, longest}
use Rattle.am_log.specs.Faults.{head_line, HoldsOfHead, HoldsOfRow, group_at, Holds, rank, IsFirst, lines_in, line_at, IsFault}
use Rattle.am_log.specs.Groups.{groups, Wraps}
use Rattle.am_log.specs.Naming.{Names, known_names}
use Rattle.am_log.specs.Text.{proof_line, byte_limit}
use Rattle.am_log.specs.Unwrapped.{unwrapped_text}
use Rattle.am_log.proofs.GroupKinds.{IsFirstKind, IsKindOf, first_kind, no_text, one_wrap}
use Rattle.am_log.proofs.Lines.{text_found}
use Rattle.am_log.proofs.Tidy.{tidy_joined}
use Rattle.am_log.proofs.Whole.{groups_joined}

module _ (n : Names) (sig : Signature) (ins : List SortId) where
  -- ---- of groups that are to be rows, the first of them the row of number k
  abbrev Later : ℕ → List (List ℕ) → ℕ → LogKind → Type 0
  Later k gs j kind = (j < length gs) × HoldsOfRow n sig ins (k + j) (group_at gs j) kind

  record IsFirstLater (k : ℕ) (gs : List (List ℕ)) (p : ℕ) (kind : LogKind) : Type 0 where
    pub holds : Later k gs p kind
    pub first : (j : ℕ) (other : LogKind) → Later k gs j other → (p < j) ⊎ ((p ≡ j) × (rank kind ≤ rank other))

  abbrev LaterAnswer : ℕ → ℕ → List (List ℕ) → Result (List Row) (ℕ × LogKind) → Type 0
  LaterAnswer k l gs (Ok rs) = (j : ℕ) (kind : LogKind) → Later k gs j kind → ⊥
  LaterAnswer k l gs (Err e) = (p : ℕ) × IsFirstLater k gs p e.1 × (e.0 ≡ l + sum_by lines_in (take p gs))

  at_front : (k : ℕ) (g : List ℕ) (gs : List (List ℕ)) (kind : LogKind) → Later k (g ∷ gs) 0 kind → HoldsOfRow n sig ins k g kind
  at_front k g gs kind i = let e : k + 0 ≡ k = omega arith in subst (λ (m : ℕ). HoldsOfRow n sig ins m g kind) e i.1

  to_front : (k : ℕ) (g : List ℕ) (gs : List (List ℕ)) (kind : LogKind) → HoldsOfRow n sig ins k g kind → Later k (g ∷ gs) 0 kind
  to_front k g gs kind i = let e : k ≡ k + 0 = omega arith in (omega arith, subst (λ (m : ℕ). HoldsOfRow n sig ins m g kind) e i)

  behind_front : (k j : ℕ) (g : List ℕ) (gs : List (List ℕ)) (kind : LogKind) → Later k (g ∷ gs) (suc j) kind → Later (k + 1) gs j kind
  behind_front k j g gs kind i = let e : k + suc j ≡ k + 1 + j = omega arith in (omega (arith, i.0), subst (λ (m : ℕ). HoldsOfRow n sig ins m (group_at gs j) kind) e i.1)

  to_behind : (k j : ℕ) (g : List ℕ) (gs : List (List ℕ)) (kind : LogKind) → Later (k + 1) gs j kind → Later k (g ∷ gs) (suc j) kind
  to_behind k j g gs kind i = let e : k + 1 + j ≡ k + suc j = omega arith in (omega (arith, i.0), subst (λ (m : ℕ). HoldsOfRow n sig ins m (group_at gs j) kind) e i.1)

  first_in_front : (k : ℕ) (g : List ℕ) (gs : List (List ℕ)) (kind : LogKind) → IsFirstKind n sig ins k g kind → (j : ℕ) (other : LogKind) → Later k (g ∷ gs) j other → (0 < j) ⊎ ((0 ≡ j) × (rank kind ≤ rank other))
  first_in_front k g gs kind h zero other i = inr (refl, h.first other (at_front k g gs other i))
  first_in_front k g gs kind h (suc j) other i = inl (omega arith)

  none_more : (k : ℕ) (g : List ℕ) (gs : List (List ℕ)) → ((kind : LogKind) → HoldsOfRow n sig ins k g kind → ⊥) → ((j : ℕ) (kind : LogKind) → Later (k + 1) gs j kind → ⊥) → (j : ℕ) (kind : LogKind) → Later k (g ∷ gs) j kind → ⊥
  none_more k g gs h law zero kind i = h kind (at_front k g gs kind i)
  none_more k g gs h law (suc j) kind i = law j kind (behind_front k j g gs kind i)

  one_on : (p j : ℕ) (R : Type 0) → (p < j) ⊎ ((p ≡ j) × R) → (suc p < suc j) ⊎ ((suc p ≡ suc j) × R)
  one_on p j R (inl lt) = inl (omega (arith, lt))
  one_on p j R (inr (e, r)) = inr (ap (λ (m : ℕ). suc m) e, r)

  first_behind : (k p : ℕ) (g : List ℕ) (gs : List (List ℕ)) (kind : LogKind) → ((other : LogKind) → HoldsOfRow n sig ins k g other → ⊥) → IsFirstLater (k + 1) gs p kind → (j : ℕ) (other : LogKind) → Later k (g ∷ gs) j other → (suc p < j) ⊎ ((suc p ≡ j) × (rank kind ≤ rank other))
  first_behind k p g gs kind h f zero other i = absurd (h other (at_front k g gs other i))
  first_behind k p g gs kind h f (suc j) other i = one_on p j (rank kind ≤ rank other) (f.first j other (behind_front k j g gs other i))

  step_by : (k l : ℕ) (g : List ℕ) (gs : List (List ℕ)) (x : Result Row LogKind) (y : Result (List Row) (ℕ × LogKind)) → IsKindOf n sig ins k g x → LaterAnswer (k + 1) (l + lines_in g) gs y → LaterAnswer k l (g ∷ gs) (row_before l x y)
  step_by k l g gs (Err kind) y h a = (0, record { holds = to_front k g gs kind h.holds; first = first_in_front k g gs kind h }, omega arith)
  step_by k l g gs (Ok r) (Ok rs) h a = none_more k g gs h a
  step_by k l g gs (Ok r) (Err e) h a =
      let c = sum_by-cons lines_in g (take a.0 gs) in
      let b = a.2 in
      (suc a.0, record { holds = to_behind k a.0 g gs e.1 a.1.holds; first = first_behind k a.0 g gs e.1 h a.1 }, omega (arith, b, c))

  rows_kinds : (k l : ℕ) (gs : List (List ℕ)) → length (pieced_together gs) ≤ byte_limit → LaterAnswer k l gs (rows_in n sig ins k l gs)
  rows_kinds k l [] s = λ j kind i. let h = i.0 in absurd (omega (arith, h))
  rows_kinds k l (g ∷ gs) s =
      let c = length-append g (pieced_together gs) in
      step_by k l g gs (group_row n sig ins k g) (rows_in n sig ins (k + 1) (l + lines_in g) gs) (first_kind n sig ins k g (omega (arith, s, c))) (rows_kinds (k + 1) (l + lines_in g) gs (omega (arith, s, c)))

  -- ---- of all groups
  abbrev pub Answer : List (List ℕ) → Result (List Row) (ℕ × LogKind) → Type 0
  Answer gs (Ok rs) = (j : ℕ) (kind : LogKind) → Holds n sig ins gs j kind → ⊥
  Answer gs (Err e) = (p : ℕ) × IsFirst n sig ins gs p e.1 × (e.0 ≡ line_at gs p)

  tail_later : (j : ℕ) (h : List ℕ) (gs : List (List ℕ)) (kind : LogKind) → Holds n sig ins (h ∷ gs) (suc j) kind → Later 1 gs j kind
  tail_later j h gs kind i = let e : suc j ≡ 1 + j = omega arith in (omega (arith, i.0), subst (λ (m : ℕ). HoldsOfRow n sig ins m (group_at gs j) kind) e i.1)

  later_tail : (j : ℕ) (h : List ℕ) (gs : List (List ℕ)) (kind : LogKind) → Later 1 gs j kind → Holds n sig ins (h ∷ gs) (suc j) kind
  later_tail j h gs kind i = let e : 1 + j ≡ suc j = omega arith in (omega (arith, i.0), subst (λ (m : ℕ). HoldsOfRow n sig ins m (group_at gs j) kind) e i.1)

  -- ---- the head is the first line
  head_wraps : Wraps proof_line (codes "(proof 1)")
  unfolding cut cut_within longest
  head_wraps = record { inside = refl; whole = tidy_joined 68 (codes "(proof 1)") refl; lines_are = refl }

  no_head : (kind : LogKind) → HoldsOfHead proof_line kind → ⊥
  no_head NotProof i = i refl
  no_head BadWrap i = i (codes "(proof 1)") head_wraps
  no_head BadRow i = i.2 (one_wrap proof_line i.0 (codes "(proof 1)") i.1 head_wraps)
  no_head BadNumber i = i
  no_head UnknownName i = i
  no_head BadSort i = i
  no_head NoMemory i = i

  none_at_all : (gs : List (List ℕ)) → ((j : ℕ) (kind : LogKind) → Later 1 gs j kind → ⊥) → (j : ℕ) (kind : LogKind) → Holds n sig ins (proof_line ∷ gs) j kind → ⊥
  none_at_all gs law zero kind i = no_head kind i
  none_at_all gs law (suc j) kind i = law j kind (tail_later j proof_line gs kind i)

  first_of_rows : (p : ℕ) (gs : List (List ℕ)) (kind : LogKind) → IsFirstLater 1 gs p kind → (j : ℕ) (other : LogKind) → Holds n sig ins (proof_line ∷ gs) j other → (suc p < j) ⊎ ((suc p ≡ j) × (rank kind ≤ rank other))
  first_of_rows p gs kind f zero other i = absurd (no_head other i)
  first_of_rows p gs kind f (suc j) other i = one_on p j (rank kind ≤ rank other) (f.first j other (tail_later j proof_line gs other i))

  rows_answer : (gs : List (List ℕ)) (y : Result (List Row) (ℕ × LogKind)) → LaterAnswer 1 2 gs y → Answer (proof_line ∷ gs) y
  rows_answer gs (Ok rs) a = none_at_all gs a
  rows_answer gs (Err e) a =
      let c = sum_by-cons lines_in proof_line (take a.0 gs) in
      let b = a.2 in
      (suc a.0, record { holds = later_tail a.0 proof_line gs e.1 a.1.holds; first = first_of_rows a.0 gs e.1 a.1 }, omega (arith, b, c))

  -- ---- the head is something else
  some_rank : (kind : LogKind) → 1 ≤ rank kind
  some_rank NotProof = omega arith
  some_rank BadWrap = omega arith
  some_rank BadRow = omega arith
  some_rank BadNumber = omega arith
  some_rank UnknownName = omega arith
  some_rank BadSort = omega arith
  some_rank NoMemory = omega arith

  at_head : (gs : List (List ℕ)) (kind : LogKind) → HoldsOfHead (group_at gs 0) kind → ((other : LogKind) → HoldsOfHead (group_at gs 0) other → rank kind ≤ rank other) → Answer gs (Err (1, kind))
  at_head gs kind h f = (0, record { holds = h; first = first }, refl)
    where
      first : (j : ℕ) (other : LogKind) → Holds n sig ins gs j other → (0 < j) ⊎ ((0 ≡ j) × (rank kind ≤ rank other))
      first zero other i = inr (refl, f other i)
      first (suc j) other i = inl (omega arith)

  not_proof : (gs : List (List ℕ)) → head_line (group_at gs 0) ≢ codes "C (proof 1)" → Answer gs (Err (1, NotProof))
  not_proof gs h = at_head gs NotProof h (λ other i. some_rank other)

  bad_wrap : (g : List ℕ) (gs : List (List ℕ)) → head_line g ≡ codes "C (proof 1)" → unwrapped_text g ≡ None → Answer (g ∷ gs) (Err (1, BadWrap))
  bad_wrap g gs h e = at_head (g ∷ gs) BadWrap (no_text g e) first
    where
      first : (other : LogKind) → HoldsOfHead g other → 2 ≤ rank other
      first NotProof i = absurd (i h)
      first BadWrap i = omega arith
      first BadRow i = omega arith
      first BadNumber i = omega arith
      first UnknownName i = omega arith
      first BadSort i = omega arith
      first NoMemory i = omega arith

  equal_bytes : (a b : List ℕ) → bytes_eq a b ≡ true → a ≡ b
  equal_bytes a b e = grind (arith, bytes_eq-Decides a b)

  same_bytes : (a b : List ℕ) → a ≡ b → bytes_eq a b ≡ true
  same_bytes a b e = grind (arith, bytes_eq-Decides a b)

  other_text : (g t : List ℕ) → bytes_eq g proof_line ≡ false → Wraps g t → t ≢ codes "(proof 1)"
  other_text g t e w = λ k.
      let is : g ≡ proof_line = w.lines_are ∙ ap wrapped k ∙ sym head_wraps.lines_are in
      let z : bytes_eq g proof_line ≡ true = same_bytes g proof_line is in
      absurd cc

  bad_row : (g t : List ℕ) (gs : List (List ℕ)) → head_line g ≡ codes "C (proof 1)" → bytes_eq g proof_line ≡ false → Wraps g t → Answer (g ∷ gs) (Err (1, BadRow))
  bad_row g t gs h e w = at_head (g ∷ gs) BadRow (t, w, other_text g t e w) first
    where
      first : (other : LogKind) → HoldsOfHead g other → 3 ≤ rank other
      first NotProof i = absurd (i h)
      first BadWrap i = absurd (i t w)
      first BadRow i = omega arith
      first BadNumber i = omega arith
      first UnknownName i = omega arith
      first BadSort i = omega arith
      first NoMemory i = omega arith

  wrong_by : (g : List ℕ) (gs : List (List ℕ)) (o : Option (List ℕ)) → head_line g ≡ codes "C (proof 1)" → bytes_eq g proof_line ≡ false → unwrapped_text g ≡ o → Answer (g ∷ gs) (Err (1, wrong_head o))
  wrong_by g gs None h e k = bad_wrap g gs h k
  wrong_by g gs (Some t) h e k = bad_row g t gs h e (text_found g t k)

  headed_by : (g : List ℕ) (gs : List (List ℕ)) (b : Bool) → begins_proof g ≡ b → bytes_eq g proof_line ≡ false → Answer (g ∷ gs) (Err (1, if b then wrong_head (unwrapped_text g) else NotProof))
  headed_by g gs true h e = wrong_by g gs (unwrapped_text g) (equal_bytes (head_line g) (codes "C (proof 1)") h) e refl
  headed_by g gs false h e = not_proof (g ∷ gs) (λ k. let z : begins_proof g ≡ true = same_bytes (head_line g) (codes "C (proof 1)") k in absurd cc)

  front_by : (g : List ℕ) (gs : List (List ℕ)) (b : Bool) → bytes_eq g proof_line ≡ b → length (pieced_together gs) ≤ byte_limit → Answer (g ∷ gs) (if b then rows_in n sig ins 1 2 gs else at 1 (head_fault g))
  front_by g gs true e s =
      let is : proof_line ≡ g = sym (equal_bytes g proof_line e) in
      subst (λ (h : List ℕ). Answer (h ∷ gs) (rows_in n sig ins 1 2 gs)) is (rows_answer gs (rows_in n sig ins 1 2 gs) (rows_kinds 1 2 gs s))
  front_by g gs false e s = headed_by g gs (begins_proof g) refl e

  groups_answer : (gs : List (List ℕ)) → length (pieced_together gs) ≤ byte_limit → Answer gs (rows_behind n sig ins gs)
  groups_answer [] s = not_proof [] (λ e. absurd cc)
  groups_answer (g ∷ gs) s = let c = length-append g (pieced_together gs) in front_by g gs (bytes_eq g proof_line) refl (omega (arith, s, c))

  pub log_kinds : (bytes : List ℕ) → length bytes ≤ byte_limit → Answer (groups bytes) (log_answer n sig ins bytes)
  unfolding log_answer
  log_kinds bytes s = let e : length (pieced_together (groups bytes)) ≡ length bytes = ap length (groups_joined bytes) in groups_answer (groups bytes) (omega (arith, s, e))

-- ---- one fault is the first
kind_of_rank : ℕ → LogKind
kind_of_rank zero = NoMemory
kind_of_rank (suc zero) = NotProof
kind_of_rank (suc (suc zero)) = BadWrap
kind_of_rank (suc (suc (suc zero))) = BadRow
kind_of_rank (suc (suc (suc (suc zero)))) = BadNumber
kind_of_rank (suc (suc (suc (suc (suc zero))))) = UnknownName
kind_of_rank (suc (suc (suc (suc (suc (suc zero)))))) = BadSort
kind_of_rank (suc (suc (suc (suc (suc (suc (suc k))))))) = NoMemory

kind_again : (kind : LogKind) → kind_of_rank (rank kind) ≡ kind
unfolding kind_of_rank
kind_again NotProof = refl
kind_again BadWrap = refl
kind_again BadRow = refl
kind_again BadNumber = refl
kind_again UnknownName = refl
kind_again BadSort = refl
kind_again NoMemory = refl

one_rank : (kind other : LogKind) → rank kind ≡ rank other → kind ≡ other
one_rank kind other e = sym (kind_again kind) ∙ ap kind_of_rank e ∙ kind_again other

meet : (p q a b : ℕ) → (p < q) ⊎ ((p ≡ q) × (a ≤ b)) → (q < p) ⊎ ((q ≡ p) × (b ≤ a)) → (p ≡ q) × (a ≡ b)
meet p q a b (inl x) (inl y) = absurd (omega (arith, x, y))
meet p q a b (inl x) (inr y) = absurd (let z = y.0 in omega (arith, x, z))
meet p q a b (inr x) (inl y) = absurd (let z = x.0 in omega (arith, y, z))
meet p q a b (inr x) (inr y) = let z = x.1 in let v = y.1 in (x.0, omega (arith, z, v))

-- ---- what the reader answers
module _ (t : Theory) (d : Diagram) (bytes : List ℕ) (s : length bytes ≤ byte_limit) where
  abbrev answered : Result (List Row) (ℕ × LogKind)
  answered = log_answer (known_names t d) t.sig (entry_sorts d.inputs) bytes

  abbrev good : List Row → Result (List Row) (ℕ × LogKind)
  good rs = Ok rs

  abbrev bad : ℕ → LogKind → Result (List Row) (ℕ × LogKind)
  bad line kind = Err (line, kind)

  answer_as : (x : Result (List Row) (ℕ × LogKind)) → answered ≡ x → Answer (known_names t d) t.sig (entry_sorts d.inputs) (groups bytes) x
  answer_as x e = subst (Answer (known_names t d) t.sig (entry_sorts d.inputs) (groups bytes)) e (log_kinds (known_names t d) t.sig (entry_sorts d.inputs) bytes s)

  -- where rows are read there is no fault
  pub no_fault : (rs : List Row) → answered ≡ good rs → (line : ℕ) (kind : LogKind) → IsFault t d bytes line kind → ⊥
  no_fault rs e line kind f = answer_as (good rs) e f.place kind f.at.holds

  -- a fault that is answered is the first
  pub a_fault : (line : ℕ) (kind : LogKind) → answered ≡ bad line kind → IsFault t d bytes line kind
  a_fault line kind e = let a = answer_as (bad line kind) e in record { place = a.0; at = a.1; begins = a.2 }

  -- and no other is
  pub one_fault : (line other : ℕ) (kind also : LogKind) → answered ≡ bad line kind → IsFault t d bytes other also → (line ≡ other) × (kind ≡ also)
  one_fault line other kind also e f =
      let a = a_fault line kind e in
      let m = meet a.place f.place (rank kind) (rank also) (a.at.first f.place also f.at.holds) (f.at.first a.place kind a.at.holds) in
      (a.begins ∙ ap (line_at (groups bytes)) m.0 ∙ sym f.begins, one_rank kind also m.1)
