-- For private contracts: how far a check has come, and why it stops there.
use Rattle.std.specs.Prelude.{◌≡◌, ℕ, Bool, true, false, Option, Some, None, Ok, List, [], ◌∷◌, length, map, IsTrue}
use Rattle.std.specs.List.{AllByRecursion, list_all}
use Rattle.am_term.specs.declared.id.SortId.{SortId}
use Rattle.am_term.specs.declared.signature.Signature.{Signature}
use Rattle.am_term.specs.declared.term.Literal.{Literal}
use Rattle.am_term.specs.declared.term.Term.{Term}
use Rattle.am_clause.specs.declared.clause.Clause.{Clause}
use Rattle.am_clause.specs.declared.row.Row.{Row}
use Rattle.am_clause.specs.ClauseForm.{cnf}
use Rattle.am_clause.specs.SortedClause.{is_sorted_clause}
use Rattle.am_clause.specs.Steps.{clause_at}
use Rattle.am_diagram.specs.Clauses.{goal, givens}
use Rattle.am_diagram.specs.Listed.{entry_sorts}
use Rattle.am_diagram.specs.Steps.{formulas_of}
use Rattle.am_check.specs.declared.starts.Origin.{Origin}
use Rattle.am_calculus.specs.declared.fault.StepFault.{StepFault}
use Rattle.am_calculus.specs.declared.fault.StepFault.TheVariants as step
use Rattle.am_theory.specs.declared.theory.Theory.{Theory}
use Rattle.am_diagram.specs.declared.diagram.Diagram.{Diagram}
use Rattle.am_fortran.specs.Lines.{lines_of, groups, first_line}
use Rattle.am_fortran.specs.declared.unit.Unit.{Unit as Subroutine}
use Rattle.am_exec.specs.Terms.{terms}
use Rattle.am_check.specs.FirstFault.{IsTextOf, IsFaultOf, IsFirstFault}
use Rattle.am_check.specs.Accepted.{Accepted as IsAccepted}
use Rattle.am_check.specs.declared.reason.Reason.{Reason}
use Rattle.am_check.specs.declared.reason.Reason.TheVariants as reason
use Rattle.am_check.specs.declared.reason.Stop.{Stop}
use Rattle.am_check.specs.declared.reason.Stop.TheVariants.{Memory, Fault}
use Rattle.am_check.specs.declared.reason.Verdict.{Verdict}
use Rattle.am_check.specs.declared.reason.Verdict.TheVariants.{Accepted, Refused}

-- why a row is no step, as a reason of the check
abbrev pub of_step : StepFault → Reason
of_step step.NoSuchParent = reason.NoSuchParent
of_step step.BadPlace = reason.BadPlace
of_step step.BadBindings = reason.BadBindings
of_step step.NotEqual = reason.NotEqual
of_step step.AnswersDiffer = reason.AnswersDiffer
of_step step.WrongConclusion = reason.WrongConclusion

-- what the proofs of a diagram start from, as lists
pub record IsOrigin (t : Theory) (d : Diagram) (o : Origin) : Type 0 where
  pub axioms : o.axioms ≡ map cnf (formulas_of t)
  pub goal_is : o.goal ≡ goal d
  pub givens_are : o.givens ≡ givens d
  pub sorts : o.sorts ≡ entry_sorts d.inputs

-- each row has a well sorted clause
abbrev pub AreSorted : Theory → Diagram → List Row → Type 0
AreSorted t d rows = AllByRecursion (λ (r : Row). IsTrue (is_sorted_clause t.sig (entry_sorts d.inputs) r.clause)) rows

-- the same, tested
abbrev pub are_sorted : Signature → List SortId → List Row → Bool
are_sorted sig ins rows = list_all (λ (r : Row). is_sorted_clause sig ins r.clause) rows

-- no literals, and no answer
abbrev pub is_bare : List Literal → Option (List Term) → Bool
is_bare [] None = true
is_bare [] (Some ts) = false
is_bare (l ∷ ls) answer = false

abbrev pub is_bare_clause : Option Clause → Bool
is_bare_clause None = false
is_bare_clause (Some c) = is_bare c.literals c.answer

-- there is a last row, and it has no literals and no answer
abbrev pub ends_bare : List Row → Bool
ends_bare rows = is_bare_clause (clause_at rows (length rows))

-- the first line of the group at this place
abbrev pub line_of_group : List ℕ → ℕ → ℕ
line_of_group unit place = first_line (groups (lines_of unit)) place

-- the unit part is the text of a unit that leaves these terms in the outputs
pub record Leaves (t : Theory) (d : Diagram) (unit : List ℕ) (answer : List Term) : Type 0 where
  pub run : Subroutine
  pub read : IsTextOf unit run
  pub gives : terms t d run ≡ Ok answer

-- memory is out, or this is the first fault of the two parts
abbrev pub Stops : Theory → Diagram → List ℕ → List ℕ → Stop → Type 0
Stops t d proof unit Memory = Unit {0}
Stops t d proof unit (Fault line why) = IsFaultOf t d proof unit line why

-- whatever the unit part is
abbrev pub StopsAlways : Theory → Diagram → List ℕ → Stop → Type 0
StopsAlways t d proof stop = (unit : List ℕ) → Stops t d proof unit stop

-- memory is out, or this is the first fault of the text
abbrev pub StopsText : Theory → Diagram → List ℕ → Stop → Type 0
StopsText t d text Memory = Unit {0}
StopsText t d text (Fault line why) = IsFirstFault t d text line why

-- what a verdict says of the text
abbrev pub IsVerdict : Theory → Diagram → List ℕ → Verdict → Type 0
IsVerdict t d text Accepted = IsAccepted t d text
IsVerdict t d text (Refused line why) = IsFirstFault t d text line why
