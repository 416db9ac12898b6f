-- The rows at the start of a search are steps.
use Rattle.std.proofs.Common.{◌≡◌, ◌∙◌, ◌++◌, ◌+◌, ℕ, suc, arith, refl, sym, ap}
use Rattle.std.proofs.Common.{List, [], ◌∷◌, slice_get, Some, option_and_then}
use Rattle.std.specs.List.{AllByRecursion}
use Rattle.std.proofs.lemmas.List.{append-nil}
use Rattle.am_term.specs.declared.id.SortId.{SortId}
use Rattle.am_term.specs.declared.signature.Signature.{Signature}
use Rattle.am_term.specs.declared.term.Formula.{Formula}
use Rattle.am_term.specs.Place.{member}
use Rattle.am_clause.specs.declared.clause.Clause.{Clause}
use Rattle.am_clause.specs.declared.row.Row.{Row}
use Rattle.am_clause.specs.ClauseForm.{cnf}
use Rattle.am_clause.specs.Distinct.{distinct}
use Rattle.am_clause.specs.Numbered.{IsNumbered, AreNumbered, in_made}
use Rattle.am_clause.specs.Sources.{sources_of}
use Rattle.am_clause.specs.Steps.{Sources, IsStep, AreSteps}
use Rattle.am_clause.specs.Variables.{Variable, same_variable, in_clause, variables}
use Rattle.am_theory.specs.declared.theory.Theory.{Theory}
use Rattle.am_theory.specs.Facts.{WellFormed}
use Rattle.am_diagram.specs.declared.diagram.Diagram.{Diagram}
use Rattle.am_diagram.specs.Clauses.{goal, givens}
use Rattle.am_diagram.specs.Facts.{WellFormed as WellDrawn}
use Rattle.am_diagram.specs.Listed.{entry_sorts}
use Rattle.am_diagram.specs.Steps.{formulas_of, IsProof}
use Rattle.am_search.specs.Starting.{goal_row, clause_rows_of, axiom_rows, given_rows}
use Rattle.am_search.specs.Starting.{theory_rows, starting_rows}
use Rattle.am_simplify.specs.Steps.{IsProper}
use Rattle.am_derivation.proofs.SortedStarts.{HasProper, axioms-proper, goal-proper, givens-proper}

-- a numbered clause without lists of terms
numbered-bare : (c : Clause) → IsNumbered c → AreNumbered (in_made [] c)
unfolding variables
numbered-bare c h k v e =
    h k v (ap (λ (vs : List Variable). slice_get (distinct same_variable vs) k) (sym (append-nil (in_clause c))) ∙ e)

-- the members of the second list stand in the first, from that number on
abbrev StandFrom : {A : Type 0} → List A → ℕ → List A → Type 0
StandFrom {A} xs k ys = (i : ℕ) (y : A) → slice_get ys i ≡ Some y → member xs (k + i) ≡ Some y

first-stands : {A : Type 0} (xs : List A) (k : ℕ) (y : A) (ys : List A) → StandFrom xs k (y ∷ ys) → member xs k ≡ Some y
first-stands xs k y ys h = let same : k ≡ k + 0 = omega arith in ap (member xs) same ∙ h 0 y refl

others-stand : {A : Type 0} (xs : List A) (k : ℕ) (y : A) (ys : List A) → StandFrom xs k (y ∷ ys)
    → StandFrom xs (k + 1) ys
others-stand xs k y ys h i z e = let same : (k + 1) + i ≡ k + suc i = omega arith in ap (member xs) same ∙ h (suc i) z e

all-stand : {A : Type 0} (xs : List A) → StandFrom xs 1 xs
all-stand xs i y e = let same : 1 + i ≡ suc i = omega arith in ap (member xs) same ∙ e

pub all-append : {A : Type 0} (P : A → Type 0) (xs ys : List A) → AllByRecursion P xs → AllByRecursion P ys
    → AllByRecursion P (xs ++ ys)
all-append P [] ys h k = k
all-append P (x ∷ xs) ys h k = (h.0, all-append P xs ys h.1 k)

module _ (sig : Signature) (ins : List SortId) (axioms : List Formula) (asked : Clause) (facts : List Clause) where
  abbrev from : Sources
  from = sources_of axioms asked facts

  -- the row is a step after any others
  abbrev Starts : Row → Type 0
  Starts row = (before : List Row) → IsStep sig ins from before row

  clauses-start : (k c : ℕ) (f : Formula) (ds : List Clause) → member axioms k ≡ Some f → StandFrom (cnf f) c ds
      → AllByRecursion (IsProper sig ins) ds → AllByRecursion Starts (clause_rows_of k c ds)
  clauses-start k c f [] at_ s h = tt
  clauses-start k c f (d ∷ ds) at_ s h = (
    λ before. record {
      follows = record {
        is = ap (option_and_then (λ g. member (cnf g) c)) at_ ∙ first-stands (cnf f) c d ds s;
        unbound = refl;
      };
      sorted = h.0.sorted;
      numbered = numbered-bare d h.0.numbered;
    },
    clauses-start k (c + 1) f ds at_ (others-stand (cnf f) c d ds s) h.1,
  )

  axioms-start : (k : ℕ) (fs : List Formula) → StandFrom axioms k fs → AllByRecursion (HasProper sig ins) fs
      → AllByRecursion Starts (axiom_rows k fs)
  axioms-start k [] s h = tt
  axioms-start k (f ∷ fs) s h =
      all-append Starts (clause_rows_of k 1 (cnf f)) (axiom_rows (k + 1) fs)
      (clauses-start k 1 f (cnf f) (first-stands axioms k f fs s) (all-stand (cnf f)) h.0)
      (axioms-start (k + 1) fs (others-stand axioms k f fs s) h.1)

  goal-starts : IsProper sig ins asked → Starts (goal_row asked)
  goal-starts h before = record {
    follows = record { is = refl; unbound = refl };
    sorted = h.sorted;
    numbered = numbered-bare asked h.numbered;
  }

  givens-start : (k : ℕ) (ds : List Clause) → StandFrom facts k ds → AllByRecursion (IsProper sig ins) ds
      → AllByRecursion Starts (given_rows k ds)
  givens-start k [] s h = tt
  givens-start k (d ∷ ds) s h = (
    λ before. record {
      follows = record { is = first-stands facts k d ds s; unbound = refl };
      sorted = h.0.sorted;
      numbered = numbered-bare d h.0.numbered;
    },
    givens-start (k + 1) ds (others-stand facts k d ds s) h.1,
  )

  steps-all : (before rows : List Row) → AllByRecursion Starts rows → AreSteps sig ins from before rows
  steps-all before [] h = tt
  steps-all before (row ∷ rows) h = (h.0 before, steps-all (before ++ row ∷ []) rows h.1)

pub starting-proof : (t : Theory) (d : Diagram) → WellFormed t → WellDrawn t d → IsProof t d (starting_rows t d)
starting-proof t d h k =
    let ins : List SortId = entry_sorts d.inputs in
    let fs : List Formula = formulas_of t in
    steps-all t.sig ins fs (goal d) (givens d) [] (starting_rows t d)
    (all-append (Starts t.sig ins fs (goal d) (givens d)) (theory_rows t) (goal_row (goal d) ∷ given_rows 1 (givens d))
    (axioms-start t.sig ins fs (goal d) (givens d) 1 fs (all-stand fs) (axioms-proper t ins h)) (
      goal-starts t.sig ins fs (goal d) (givens d) (goal-proper t d h k),
      givens-start t.sig ins fs (goal d) (givens d) 1 (givens d) (all-stand (givens d)) (givens-proper t d k),
    ))
