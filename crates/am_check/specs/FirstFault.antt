-- The first fault of a text that isn't accepted. The check has six phases, and a later one is reached only where the
-- earlier ones have no fault: the text of the log; its rows as steps; its last row; the text of the unit; the unit's
-- run by terms; whether the outputs' terms are the answer. In a phase the earlier row or item comes first, and at one
-- place the kind that is named first. Lines count from 1 over the whole text.
use Rattle.std.specs.Prelude.{◌≡◌, ◌≢◌, ◌+◌, ◌-◌, ℕ, suc, Some, Ok, Err, List, length, take, slice_get}
use Rattle.am_term.specs.declared.term.Term.{Term}
use Rattle.am_clause.specs.declared.row.Row.{Row}
use Rattle.am_clause.specs.declared.row.Log.{Log}
use Rattle.am_calculus.specs.declared.fault.StepFault.{StepFault}
use Rattle.am_calculus.specs.declared.fault.StepFault.TheVariants as step
use Rattle.am_calculus.specs.Faults.{first_fault}
use Rattle.am_theory.specs.declared.theory.Theory.{Theory}
use Rattle.am_diagram.specs.declared.diagram.Diagram.{Diagram}
use Rattle.am_diagram.specs.Listed.{entry_sorts}
use Rattle.am_diagram.specs.Steps.{IsProof, sources}
use Rattle.am_log.specs.Faults.{line_at, lines_in, IsFault as IsLogFault}
use Rattle.am_log.specs.Groups.{groups as row_groups}
use Rattle.am_log.specs.Split.{IsSplit}
use Rattle.am_log.specs.Text.{log_text, HasText}
use Rattle.am_fortran.specs.declared.fault.UnitKind.{UnitKind}
use Rattle.am_fortran.specs.declared.unit.Unit.{Unit as Subroutine}
use Rattle.am_fortran.specs.Faults.{IsFault as IsUnitFault}
use Rattle.am_fortran.specs.Lines.{lines_of, groups, first_line}
use Rattle.am_fortran.specs.Text.{unit_text}
use Rattle.am_fortran.specs.Units.{IsUnit}
use Rattle.am_exec.specs.declared.fault.ExecKind.{ExecKind}
use Rattle.am_exec.specs.Terms.{terms, fault_at}
use Rattle.am_check.specs.Accepted.{EndsWith}
use Rattle.am_check.specs.declared.reason.Reason.{Reason}
use Rattle.am_check.specs.declared.reason.Reason.TheVariants as reason

-- ---- lines

-- the first line of the row of this number, which is the group of this number behind the line that begins the proof; of
-- number 0 that line itself
abbrev pub row_line : List ℕ → ℕ → ℕ
row_line proof number = line_at (row_groups proof) number

-- the first line of the item of this number, from 1, counted from the start of the unit part
abbrev pub item_line : List ℕ → ℕ → ℕ
item_line unit item = first_line (groups (lines_of unit)) (item - 1)

-- the number of the item that ends the unit: the head, the declarations and the statements stand before it
abbrev pub end_item_number : Subroutine → ℕ
end_item_number u = length u.declarations + length u.statements + 2

-- ---- phases without fault

-- the proof part is the text of this log
pub record IsLog (t : Theory) (d : Diagram) (proof : List ℕ) (log : Log) : Type 0 where
  pub has_text : HasText t d log
  pub text : proof ≡ log_text t d log

-- and each row is a step, and the last has no literals and this answer
pub record IsProofOf (t : Theory) (d : Diagram) (proof : List ℕ) (answer : List Term) : Type 0 where
  pub log : Log
  pub read : IsLog t d proof log
  pub steps : IsProof t d log.rows
  pub ends : EndsWith log.rows answer

-- the unit part is the text of this unit
pub record IsTextOf (unit : List ℕ) (u : Subroutine) : Type 0 where
  pub is_unit : IsUnit u
  pub text : unit ≡ unit_text u

-- ---- faults

-- the rows before this place are steps, and the row there is none, of which this is the first cause
pub record IsFirstBad (t : Theory) (d : Diagram) (rows : List Row) (place : ℕ) (fault : StepFault) : Type 0 where
  pub before : IsProof t d (take place rows)
  pub row : Row
  pub there : slice_get rows place ≡ Some row
  pub bad : first_fault t.sig (entry_sorts d.inputs) (sources t d) (take place rows) row ≡ Some fault

-- some row is no step; the line is the first one's
pub record HasBadStep (t : Theory) (d : Diagram) (proof : List ℕ) (line : ℕ) (fault : StepFault) : Type 0 where
  pub log : Log
  pub read : IsLog t d proof log
  pub place : ℕ
  pub first : IsFirstBad t d log.rows place fault
  pub begins : line ≡ row_line proof (suc place)

-- all rows are steps, and the last has literals or no answer, or there is none; the line is that of the last row, or 1
-- where there is none
pub record IsUnfinished (t : Theory) (d : Diagram) (proof : List ℕ) (line : ℕ) : Type 0 where
  pub log : Log
  pub read : IsLog t d proof log
  pub steps : IsProof t d log.rows
  pub open_end : (answer : List Term) → EndsWith log.rows answer → ⊥
  pub begins : line ≡ row_line proof (length log.rows)

-- behind a proof the unit part is the text of no unit
pub record HasBadUnit (t : Theory) (d : Diagram) (proof unit : List ℕ) (line : ℕ) (kind : UnitKind) : Type 0 where
  pub answer : List Term
  pub proved : IsProofOf t d proof answer
  pub within : ℕ
  pub fault : IsUnitFault unit within kind
  pub begins : line ≡ lines_in proof + within

-- behind a proof the unit part is the text of a unit, which can't be run by terms; the line is that of the first faulty
-- item
pub record HasBadRun (t : Theory) (d : Diagram) (proof unit : List ℕ) (line : ℕ) (kind : ExecKind) : Type 0 where
  pub answer : List Term
  pub proved : IsProofOf t d proof answer
  pub run : Subroutine
  pub read : IsTextOf unit run
  pub item : ℕ
  pub fault : terms t d run ≡ Err (fault_at item kind)
  pub begins : line ≡ lines_in proof + item_line unit item

-- behind a proof the unit part is the text of a unit that leaves other terms in the outputs than the answer; the line is
-- that of the unit's end
pub record HasOtherTerms (t : Theory) (d : Diagram) (proof unit : List ℕ) (line : ℕ) : Type 0 where
  pub answer : List Term
  pub proved : IsProofOf t d proof answer
  pub run : Subroutine
  pub read : IsTextOf unit run
  pub gives : List Term
  pub leaves : terms t d run ≡ Ok gives
  pub other : gives ≢ answer
  pub begins : line ≡ lines_in proof + item_line unit (end_item_number run)

-- the first fault of a proof part and a unit part stands at this line, for this reason
abbrev pub IsFaultOf : Theory → Diagram → List ℕ → List ℕ → ℕ → Reason → Type 0
IsFaultOf t d proof unit line (reason.Log kind) = IsLogFault t d proof line kind
IsFaultOf t d proof unit line reason.NoSuchParent = HasBadStep t d proof line step.NoSuchParent
IsFaultOf t d proof unit line reason.BadPlace = HasBadStep t d proof line step.BadPlace
IsFaultOf t d proof unit line reason.BadBindings = HasBadStep t d proof line step.BadBindings
IsFaultOf t d proof unit line reason.NotEqual = HasBadStep t d proof line step.NotEqual
IsFaultOf t d proof unit line reason.AnswersDiffer = HasBadStep t d proof line step.AnswersDiffer
IsFaultOf t d proof unit line reason.WrongConclusion = HasBadStep t d proof line step.WrongConclusion
IsFaultOf t d proof unit line reason.NotFinal = IsUnfinished t d proof line
IsFaultOf t d proof unit line (reason.Unit kind) = HasBadUnit t d proof unit line kind
IsFaultOf t d proof unit line (reason.Exec kind) = HasBadRun t d proof unit line kind
IsFaultOf t d proof unit line reason.Differs = HasOtherTerms t d proof unit line

-- the first fault of a text: that of its proof part, the lines in front that begin with `C`, and its unit part, the rest
pub record IsFirstFault (t : Theory) (d : Diagram) (text : List ℕ) (line : ℕ) (why : Reason) : Type 0 where
  pub proof : List ℕ
  pub unit : List ℕ
  pub split : IsSplit text proof unit
  pub fault : IsFaultOf t d proof unit line why
