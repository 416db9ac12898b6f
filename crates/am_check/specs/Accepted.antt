-- Which texts are accepted: a proof, and behind it the unit that does what the proof's answer says; and how proofs end.
use Rattle.std.specs.Prelude.{◌≡◌, ℕ, Option, Some, None, Ok, List, [], ◌∷◌, ◌++◌, length}
use Rattle.am_term.specs.declared.term.Literal.{Literal}
use Rattle.am_term.specs.declared.term.Term.{Term}
use Rattle.am_clause.specs.declared.clause.Clause.{Clause}
use Rattle.am_clause.specs.declared.row.Row.{Row}
use Rattle.am_clause.specs.declared.row.Log.{Log}
use Rattle.am_clause.specs.Steps.{clause_at}
use Rattle.am_theory.specs.declared.theory.Theory.{Theory}
use Rattle.am_diagram.specs.declared.diagram.Diagram.{Diagram}
use Rattle.am_diagram.specs.Steps.{IsProof}
use Rattle.am_log.specs.Text.{log_text, HasText}
use Rattle.am_fortran.specs.Text.{unit_text}
use Rattle.am_fortran.specs.Units.{IsUnit}
use Rattle.am_fortran.specs.declared.unit.Unit.{Unit as Subroutine}
use Rattle.am_exec.specs.Terms.{terms}

-- there is a last row; it has no literals, and this answer
abbrev pub EndsWith : List Row → List Term → Type 0
EndsWith rows answer = clause_at rows (length rows) ≡ Some (record { literals = []; answer = Some answer })

-- there is a last row; it has no literals and no answer
abbrev pub EndsEmpty : List Row → Type 0
EndsEmpty rows = clause_at rows (length rows) ≡ Some (record { literals = []; answer = None })

-- the answer behind no literals
abbrev pub bare_answer : List Literal → Option (List Term) → Option (List Term)
bare_answer [] answer = answer
bare_answer (l ∷ ls) answer = None

abbrev pub closing_answer : Option Clause → Option (List Term)
closing_answer None = None
closing_answer (Some c) = bare_answer c.literals c.answer

-- the answer of the last row, where that has no literals
abbrev pub final_answer : List Row → Option (List Term)
final_answer rows = closing_answer (clause_at rows (length rows))

-- The text is that of a log, followed by that of a unit. Each row of the log is a step after the rows before it, and the
-- last has no literals and an answer. Run by terms, the unit leaves this answer in the outputs.
pub record Accepted (t : Theory) (d : Diagram) (text : List ℕ) : Type 0 where
  pub log : Log
  pub logged : HasText t d log
  pub unit : Subroutine
  pub lawful : IsUnit unit
  pub is : text ≡ log_text t d log ++ unit_text unit
  pub proved : IsProof t d log.rows
  pub answer : List Term
  pub ends : EndsWith log.rows answer
  pub gives : terms t d unit ≡ Ok answer
