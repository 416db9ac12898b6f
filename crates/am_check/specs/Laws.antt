-- The laws of the check.
use Rattle.std.specs.Prelude.{◌≡◌, ◌≤◌, ℕ, Some, None, List, [], ◌++◌, length}
use Rattle.am_clause.specs.declared.clause.Clause.{Clause}
use Rattle.am_clause.specs.declared.row.Row.{Row}
use Rattle.am_clause.specs.Steps.{clause_at}
use Rattle.am_theory.specs.declared.theory.Theory.{Theory}
use Rattle.am_theory.specs.Facts.{WellFormed}
use Rattle.am_diagram.specs.declared.diagram.Diagram.{Diagram}
use Rattle.am_diagram.specs.Facts.{WellFormed as WellDrawn}
use Rattle.am_diagram.specs.Steps.{IsProof, formulas_of}
use Rattle.am_log.specs.Text.{byte_limit}
use Rattle.am_world.specs.Interpretation.{Interpretation}
use Rattle.am_world.specs.Truth.{Models}
use Rattle.am_exec.specs.Given.{Given}
use Rattle.am_exec.specs.Right.{Right}
use Rattle.am_check.specs.Accepted.{Accepted}
use Rattle.am_check.specs.FirstFault.{IsFirstFault}
use Rattle.am_check.specs.declared.reason.Reason.{Reason}

-- in each model of the axioms the unit of an accepted text is right
abbrev pub AcceptedIsRight : Type 0
AcceptedIsRight = (t : Theory) (d : Diagram) (text : List ℕ) → WellFormed t → WellDrawn t d → (a : Accepted t d text)
    → (w : Interpretation) → Models t.sig (formulas_of t) w → Right w t d a.unit

-- in each model of the axioms, where the last row of a proof has no literals and no answer, no inputs meet the givens
abbrev pub ContradictionsRefute : Type 0
ContradictionsRefute = (t : Theory) (d : Diagram) (rows : List Row) (c : Clause) → WellFormed t → WellDrawn t d → IsProof t d rows → clause_at rows (length rows) ≡ Some c → c.literals ≡ [] → c.answer ≡ None
    → (w : Interpretation) → Models t.sig (formulas_of t) w → (ins : List ℕ) → Given w d ins → ⊥

-- an accepted text has no first fault, and two first faults of a text are one
pub record HasOneOutcome (t : Theory) (d : Diagram) (text : List ℕ) : Type 0 where
  pub not_both : (line : ℕ) (why : Reason) → Accepted t d text → IsFirstFault t d text line why → ⊥
  pub one : (line other : ℕ) (why because : Reason) → IsFirstFault t d text line why → IsFirstFault t d text other because → (line ≡ other) × (why ≡ because)

abbrev pub EachHasOneOutcome : Type 0
EachHasOneOutcome = (t : Theory) (d : Diagram) (text : List ℕ) → WellFormed t → WellDrawn t d → length text ≤ byte_limit → HasOneOutcome t d text

-- what is left of an accepted text without a part at its end isn't accepted
abbrev pub NoPrefix : Type 0
NoPrefix = (t : Theory) (d : Diagram) (text more : List ℕ) → WellFormed t → WellDrawn t d → Accepted t d (text ++ more) → Accepted t d text → more ≡ []
