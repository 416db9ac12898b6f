-- Which clauses are true, and what is true whatever its variables stand for.
use Rattle.std.specs.Prelude.{ℕ, Bool, List, IsTrue}
use Rattle.std.specs.List.{list_any}
use Rattle.am_term.specs.declared.id.SortId.{SortId}
use Rattle.am_term.specs.declared.signature.Signature.{Signature}
use Rattle.am_term.specs.declared.term.Formula.{Formula}
use Rattle.am_clause.specs.declared.clause.Clause.{Clause}
use Rattle.am_world.specs.Interpretation.{Interpretation}
use Rattle.am_world.specs.Value.{Assignment, IsAssignment, literal_truth}
use Rattle.am_world.specs.Truth.{truth}

-- some literal is true; an answer isn't looked at
abbrev pub clause_truth : Interpretation → List ℕ → Assignment → Clause → Bool
clause_truth w ins a c = list_any (literal_truth w ins a) c.literals

-- the formula is true under every assignment of members to its variables
abbrev pub FormulaHolds : Signature → Interpretation → List ℕ → Formula → Type 0
FormulaHolds sig w ins f = (a : Assignment) → IsAssignment sig w a → IsTrue (truth w ins a f)

-- so is the clause
abbrev pub ClauseHolds : Signature → Interpretation → List ℕ → Clause → Type 0
ClauseHolds sig w ins c = (a : Assignment) → IsAssignment sig w a → IsTrue (clause_truth w ins a c)

-- the assignment under which a variable has the number that the renamed variable has
abbrev pub before_renaming : Assignment → (ℕ → SortId → ℕ) → Assignment
before_renaming a to n s = a (to n s) s
