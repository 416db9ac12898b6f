-- Rows that are steps, one after the other.
use Rattle.std.proofs.Common.{◌≡◌, ◌+◌, ◌<◌, ◌++◌, ◌∙◌, ℕ, zero, suc, List, [], ◌∷◌, Option, Some, None, length, take, refl, sym, ap, subst, arith, map, get_or, slice_get, option_map, option_and_then, IsTrue}
use Rattle.std.proofs.lemmas.Option.{slice_get_read}
use mathlib.Core.List.{append_assoc, append-nil}
use Rattle.am_term.specs.declared.id.SortId.{SortId}
use Rattle.am_term.specs.declared.signature.Signature.{Signature}
use Rattle.am_term.specs.declared.term.Formula.{Formula}
use Rattle.am_term.specs.Place.{member}
use Rattle.am_term.proofs.Tests.{and_right}
use Rattle.am_clause.specs.declared.clause.Clause.{Clause}
use Rattle.am_clause.specs.declared.row.Row.{Row}
use Rattle.am_clause.specs.declared.row.Rule.{Rule}
use Rattle.am_clause.specs.declared.row.Rule.TheVariants.{Axiom, Goal, Given, Factor, Reflex, Resolve, Para, Rewrite, Close}
use Rattle.am_clause.specs.ClauseForm.{cnf}
use Rattle.am_clause.specs.SortedClause.{is_sorted_clause}
use Rattle.am_clause.specs.Sources.{sources_of}
use Rattle.am_clause.specs.Steps.{Sources, IsStep, AreSteps}
use Rattle.am_calculus.specs.declared.fault.StepFault.{StepFault}
use Rattle.am_calculus.specs.Faults.{first_fault, fault_by, fault_of_start}
use Rattle.am_calculus.specs.Starts.{sources_in}
use Rattle.am_calculus.proofs.Faultless.{faultless, step-faultless}
use Rattle.am_calculus.proofs.Lists.{member-map}
use Rattle.am_theory.specs.declared.theory.Theory.{Theory}
use Rattle.am_diagram.specs.declared.diagram.Diagram.{Diagram}
use Rattle.am_diagram.specs.Listed.{entry_sorts}
use Rattle.am_diagram.specs.Steps.{sources, IsProof}
use Rattle.am_log.specs.Text.{AreWritable}
use Rattle.am_check.specs.FirstFault.{IsFirstBad}
use Rattle.am_check.specs.Phases.{AreSorted}

-- ---- what a proof starts from, as lists

found-form : (fs : List Formula) (k c : ℕ) → option_and_then (λ cs. member cs c) (member (map cnf fs) k) ≡ option_and_then (λ f. member (cnf f) c) (member fs k)
found-form fs k c = ap (option_and_then (λ (cs : List Clause). member cs c)) (member-map cnf fs k) ∙ through (member fs k)
  where
    through : (o : Option Formula) → option_and_then (λ (cs : List Clause). member cs c) (option_map cnf o) ≡ option_and_then (λ f. member (cnf f) c) o
    through None = refl
    through (Some f) = refl

-- the first fault looks at no more of the sources than the clause that the rule names
pub listed-fault : (sig : Signature) (ins : List SortId) (fs : List Formula) (g : Clause) (gs : List Clause) (rows : List Row) (row : Row) (rule : Rule) → fault_by sig ins (sources_in (map cnf fs) g gs) rows rule row ≡ fault_by sig ins (sources_of fs g gs) rows rule row
listed-fault sig ins fs g gs rows row (Axiom k c) = ap (λ (o : Option Clause). fault_of_start o row) (found-form fs k c)
listed-fault sig ins fs g gs rows row Goal = refl
listed-fault sig ins fs g gs rows row (Given k) = refl
listed-fault sig ins fs g gs rows row (Factor p i j) = refl
listed-fault sig ins fs g gs rows row (Reflex p i) = refl
listed-fault sig ins fs g gs rows row (Resolve p i q j) = refl
listed-fault sig ins fs g gs rows row (Para p j side q i path) = refl
listed-fault sig ins fs g gs rows row (Rewrite p j side q i path) = refl
listed-fault sig ins fs g gs rows row (Close p) = refl

-- ---- one row more

module _ (sig : Signature) (ins : List SortId) (from : Sources) where
  steps-more : (before rows : List Row) (row : Row) → AreSteps sig ins from before rows → IsStep sig ins from (before ++ rows) row → AreSteps sig ins from before (rows ++ row ∷ [])
  steps-more before [] row s h = (subst (λ (z : List Row). IsStep sig ins from z row) (append-nil before) h, tt)
  steps-more before (r ∷ rows) row s h = (s.0, steps-more (before ++ r ∷ []) rows row s.1 (subst (λ (z : List Row). IsStep sig ins from z row) (sym (append_assoc before (r ∷ []) rows)) h))

  steps-at : (before rows : List Row) (k : ℕ) (row : Row) → AreSteps sig ins from before rows → slice_get rows k ≡ Some row → IsStep sig ins from (before ++ take k rows) row
  steps-at before [] k row s e = absurd cc
  steps-at before (r ∷ rows) zero row s e = let one : r ≡ row = cc in subst (λ (z : List Row). IsStep sig ins from z row) (sym (append-nil before)) (subst (IsStep sig ins from before) one s.0)
  steps-at before (r ∷ rows) (suc k) row s e = subst (λ (z : List Row). IsStep sig ins from z row) (append_assoc before (r ∷ []) (take k rows)) (steps-at (before ++ r ∷ []) rows k row s.1 e)

pub take-one : {A : Type 0} (xs : List A) (k : ℕ) (x : A) → slice_get xs k ≡ Some x → take (suc k) xs ≡ take k xs ++ x ∷ []
take-one [] k x e = absurd cc
take-one (y ∷ ys) zero x e = let one : y ≡ x = cc in ap (λ z. z ∷ []) one
take-one (y ∷ ys) (suc k) x e = ap (λ z. y ∷ z) (take-one ys k x e)

sorted-at : (t : Theory) (d : Diagram) (rows : List Row) (k : ℕ) (row : Row) → AreSorted t d rows → slice_get rows k ≡ Some row → IsTrue (is_sorted_clause t.sig (entry_sorts d.inputs) row.clause)
sorted-at t d [] k row s e = absurd cc
sorted-at t d (r ∷ rows) zero row s e = let one : r ≡ row = cc in subst (λ (z : Row). IsTrue (is_sorted_clause t.sig (entry_sorts d.inputs) z.clause)) one s.0
sorted-at t d (r ∷ rows) (suc k) row s e = sorted-at t d rows k row s.1 e

-- behind steps a row without fault is a step
pub proof-more : (t : Theory) (d : Diagram) (rows : List Row) (k : ℕ) (row : Row) → AreSorted t d rows → slice_get rows k ≡ Some row → IsProof t d (take k rows)
    → first_fault t.sig (entry_sorts d.inputs) (sources t d) (take k rows) row ≡ None → IsProof t d (take (suc k) rows)
proof-more t d rows k row s e h f =
    let step = faultless t.sig (entry_sorts d.inputs) (sources t d) (take k rows) row (sorted-at t d rows k row s e) f in
    subst (IsProof t d) (sym (take-one rows k row e)) (steps-more t.sig (entry_sorts d.inputs) (sources t d) [] (take k rows) row h step)

-- the rows of a log that has a text are well sorted
pub written-sorted : (t : Theory) (d : Diagram) (k : ℕ) (rows : List Row) → AreWritable t d k rows → AreSorted t d rows
written-sorted t d k [] w = tt
written-sorted t d k (r ∷ rows) w = (and_right _ (is_sorted_clause t.sig (entry_sorts d.inputs) r.clause) w.0.sorted, written-sorted t d (k + 1) rows w.1)

-- in a proof no row is the first bad one
pub proof-good : (t : Theory) (d : Diagram) (rows : List Row) (place : ℕ) (fault : StepFault) → IsProof t d rows → IsFirstBad t d rows place fault → ⊥
proof-good t d rows place fault h b =
    let step = steps-at t.sig (entry_sorts d.inputs) (sources t d) [] rows place b.row h b.there in
    let none = step-faultless t.sig (entry_sorts d.inputs) (sources t d) (take place rows) b.row step in
    let clash : Some fault ≡ None = sym b.bad ∙ none in absurd cc

-- the same, by the row's place among the rows
pub proof-next : (t : Theory) (d : Diagram) (rows : List Row) (k : ℕ) (row : Row) → AreSorted t d rows → k < length rows → row ≡ get_or rows k row → IsProof t d (take k rows)
    → first_fault t.sig (entry_sorts d.inputs) (sources t d) (take k rows) row ≡ None → IsProof t d (take (k + 1) rows)
proof-next t d rows k row s l e h f = let n : suc k ≡ k + 1 = omega arith in subst (λ (m : ℕ). IsProof t d (take m rows)) n (proof-more t d rows k row s (slice_get_read rows (length rows) k row refl l e) h f)
