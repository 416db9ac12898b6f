-- When a clause with an answer holds: the answer is read as one more literal, which says that what is asked is met.
use Rattle.std.specs.Prelude.{◌≡◌, ◌⊎◌, ℕ, List, Option, Some, None, IsTrue}
use Rattle.am_term.specs.declared.signature.Signature.{Signature}
use Rattle.am_term.specs.declared.term.Term.{Term}
use Rattle.am_clause.specs.declared.clause.Clause.{Clause}
use Rattle.am_world.specs.Interpretation.{Interpretation}
use Rattle.am_world.specs.Value.{Assignment, IsAssignment, values}
use Rattle.am_world.specs.ClauseTruth.{clause_truth}
use Rattle.am_clause.specs.Steps.{Sources}

-- there is an answer, and what is asked of answers is met by its values
abbrev pub Serves : Interpretation → List ℕ → (List ℕ → Type 0) → Assignment → Option (List Term) → Type 0
Serves w ins Q a None = ⊥
Serves w ins Q a (Some ts) = Q (values w ins a ts)

-- under one assignment: some literal is true, or the answer serves
abbrev pub HoldsAt : Interpretation → List ℕ → (List ℕ → Type 0) → Assignment → Clause → Type 0
HoldsAt w ins Q a c = IsTrue (clause_truth w ins a c) ⊎ Serves w ins Q a c.answer

-- under every assignment of members to the variables
abbrev pub HoldsFor : Signature → Interpretation → List ℕ → (List ℕ → Type 0) → Clause → Type 0
HoldsFor sig w ins Q c = (a : Assignment) → IsAssignment sig w a → HoldsAt w ins Q a c

-- what a proof may start from holds
pub record SourcesHold (sig : Signature) (w : Interpretation) (ins : List ℕ) (Q : List ℕ → Type 0) (sources : Sources) : Type 0 where
  pub axioms : (k c : ℕ) (d : Clause) → sources.axioms k c ≡ Some d → HoldsFor sig w ins Q d
  pub goal : HoldsFor sig w ins Q sources.goal
  pub givens : (k : ℕ) (d : Clause) → sources.givens k ≡ Some d → HoldsFor sig w ins Q d
