-- A question in a model: what a proof starts from there, and what its rows are steps from.
use Rattle.std.specs.Prelude.{◌++◌, ℕ, List, [], IsTrue}
use Rattle.std.specs.List.{AllByRecursion}
use Rattle.am_term.specs.declared.id.SortId.{SortId}
use Rattle.am_term.specs.declared.signature.Signature.{Signature}
use Rattle.am_term.specs.declared.term.Literal.{Literal}
use Rattle.am_term.specs.declared.term.Formula.{Formula}
use Rattle.am_term.specs.SortedFormula.{is_sorted_formula}
use Rattle.am_clause.specs.declared.clause.Clause.{Clause}
use Rattle.am_clause.specs.declared.row.Row.{Row}
use Rattle.am_clause.specs.Goals.{goal_of}
use Rattle.am_clause.specs.Sources.{sources_of}
use Rattle.am_clause.specs.Steps.{AreSteps}
use Rattle.am_world.specs.Interpretation.{Interpretation, Members}
use Rattle.am_world.specs.ClauseTruth.{ClauseHolds}
use Rattle.am_world.specs.Questions.{IsPosed, IsSortOf}
use Rattle.am_world.specs.Truth.{Models}

-- The interpretation is a model of the axioms, which are well sorted over no inputs; the inputs are members of their sorts
-- and meet the givens; the objects and outputs have sorts of the signature, and the requirements are about them.
pub record IsAskedIn (sig : Signature) (axioms : List Formula) (w : Interpretation) (sorts : List SortId) (ins : List ℕ) (objects outputs : List SortId) (required : List Literal) (facts : List Clause) : Type 0 where
  pub model : Models sig axioms w
  pub sorted : AllByRecursion (λ (f : Formula). IsTrue (is_sorted_formula sig [] f)) axioms
  pub inside : Members w sorts ins
  pub given : AllByRecursion (ClauseHolds sig w ins) facts
  pub objects_there : AllByRecursion (IsSortOf sig) objects
  pub outputs_there : AllByRecursion (IsSortOf sig) outputs
  pub posed : AllByRecursion (IsPosed (objects ++ outputs)) required

-- each row is a step after those before it, from the clauses of the axioms, the goal of the question, and the givens
abbrev pub AreStepsFrom : Signature → List Formula → List SortId → List SortId → List SortId → List Literal → List Clause → List Row → Type 0
AreStepsFrom sig axioms sorts objects outputs required facts rows = AreSteps sig sorts (sources_of axioms (goal_of objects outputs required) facts) [] rows
