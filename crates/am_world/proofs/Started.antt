-- What a proof starts from holds.
use Rattle.std.proofs.Common.{◌≡◌, ◌∙◌, inl, ℕ, zero, suc, refl, subst, List, [], ◌∷◌, slice_get, Option, Some, None, option_and_then, IsTrue}
use Rattle.std.specs.List.{AllByRecursion}
use Rattle.am_term.specs.declared.signature.Signature.{Signature}
use Rattle.am_term.specs.declared.term.Formula.{Formula}
use Rattle.am_term.specs.Place.{member}
use Rattle.am_clause.specs.declared.clause.Clause.{Clause}
use Rattle.am_clause.specs.ClauseForm.{cnf}
use Rattle.am_world.specs.Interpretation.{Interpretation}
use Rattle.am_world.specs.Truth.{truth, Models}
use Rattle.am_world.specs.ClauseTruth.{FormulaHolds, ClauseHolds}
use Rattle.am_world.proofs.Renamings.{holds-clauses}
use Rattle.am_term.specs.SortedFormula.{is_sorted_formula}
use Rattle.am_clause.specs.Sources.{sources_of}
use Rattle.am_world.specs.Holding.{HoldsFor, SourcesHold}
use Rattle.am_world.proofs.Inputless.{formula-free}

all-get : {A : Type 0} (P : A → Type 0) (xs : List A) (i : ℕ) (x : A) → AllByRecursion P xs → slice_get xs i ≡ Some x → P x
all-get P [] i x h e = absurd cc
all-get P (y ∷ ys) zero x h e = let one : y ≡ x = cc in subst P one h.0
all-get P (y ∷ ys) (suc i) x h e = all-get P ys i x h.1 e

pub all-member : {A : Type 0} (P : A → Type 0) (xs : List A) (i : ℕ) (x : A) → AllByRecursion P xs → member xs i ≡ Some x → P x
all-member P xs zero x h e = absurd cc
all-member P xs (suc i) x h e = all-get P xs i x h e

-- a clause that holds without a look at its answer
pub clause-holds : (sig : Signature) (w : Interpretation) (ins : List ℕ) (Q : List ℕ → Type 0) (c : Clause) → ClauseHolds sig w ins c → HoldsFor sig w ins Q c
clause-holds sig w ins Q c h a g = inl (h a g)

module _ (sig : Signature) (w : Interpretation) (ins : List ℕ) (axioms : List Formula) (model : Models sig axioms w) (sorted : AllByRecursion (λ (f : Formula). IsTrue (is_sorted_formula sig [] f)) axioms) where
  axiom-holds : (k : ℕ) (f : Formula) → member axioms k ≡ Some f → FormulaHolds sig w ins f
  axiom-holds k f e a g = formula-free sig w ins a f (all-member (λ (f : Formula). IsTrue (is_sorted_formula sig [] f)) axioms k f sorted e) ∙ all-member (λ (f : Formula). IsTrue (truth w [] a f)) axioms k f (model.hold a g) e

  -- each clause of an axiom holds
  pub axiom-clause : (k c : ℕ) (d : Clause) (o : Option Formula) → member axioms k ≡ o → option_and_then (λ f. member (cnf f) c) o ≡ Some d → ClauseHolds sig w ins d
  axiom-clause k c d None is e = absurd cc
  axiom-clause k c d (Some f) is e = all-member (ClauseHolds sig w ins) (cnf f) c d (holds-clauses w ins sig f (axiom-holds k f is)) e

  pub sources-hold : (Q : List ℕ → Type 0) (asked : Clause) (facts : List Clause) → HoldsFor sig w ins Q asked → AllByRecursion (ClauseHolds sig w ins) facts → SourcesHold sig w ins Q (sources_of axioms asked facts)
  sources-hold Q asked facts h k = record {
    axioms = λ i c d e. clause-holds sig w ins Q d (axiom-clause i c d (member axioms i) refl e);
    goal = h;
    givens = λ i d e. clause-holds sig w ins Q d (all-member (ClauseHolds sig w ins) facts i d k e);
  }
