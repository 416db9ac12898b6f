-- Words of private lemmas: what the text of a row asks of the row, part by part.
use Rattle.std.specs.Prelude.{◌≡◌, ◌≤◌, ◌+◌, ℕ, true, Some, List, length}
use Rattle.am_term.specs.declared.id.SortId.{SortId}
use Rattle.am_term.specs.declared.signature.Signature.{Signature}
use Rattle.am_term.specs.Place.{member}
use Rattle.am_clause.specs.Steps.{Sources, IsStep}
use Rattle.am_clause.specs.declared.row.Row.{Row}
use Rattle.am_text.specs.Grammar.{height}
use Rattle.am_theory.specs.declared.theory.Theory.{Theory}
use Rattle.am_theory.specs.Facts.{WellFormed}
use Rattle.am_diagram.specs.declared.diagram.Diagram.{Diagram}
use Rattle.am_diagram.specs.Facts.{WellFormed as WellDrawn}
use Rattle.am_diagram.specs.Steps.{IsProof}
use Rattle.am_log.specs.Naming.{Names, named_row, known_names}
use Rattle.am_log.specs.Spelled.{row_form, rows_bound}
use Rattle.am_log.specs.Text.{byte_limit, rows_text, row_fits, is_sorted_row}
use Rattle.am_derivation.specs.Sizes.{IsLow}

-- a row whose terms nest at most so deep has a form that is at most four lists higher
abbrev pub LowRowsHaveLowForms : Type 0
LowRowsHaveLowForms = (names : Names) (k most : ℕ) (row : Row) → IsLow most row
    → height (row_form (named_row names k row)) ≤ most + 4

-- a step has a list of terms for each row that its rule binds
abbrev pub StepsAreBound : Type 0
StepsAreBound = (sig : Signature) (ins : List SortId) (sources : Sources) (rows : List Row) (row : Row)
    → IsStep sig ins sources rows row → length row.with ≡ rows_bound row.rule

-- each term of a step has a sort
abbrev pub StepsAreSorted : Type 0
StepsAreSorted = (sig : Signature) (ins : List SortId) (sources : Sources) (rows : List Row) (row : Row)
    → IsStep sig ins sources rows row → is_sorted_row sig ins row ≡ true

-- the numbers of a proof's rows fit 32 bits, where the rows' text is no longer than a text may be
abbrev pub NumbersOfStepsFit : Type 0
NumbersOfStepsFit = (t : Theory) (d : Diagram) → WellFormed t → WellDrawn t d → (rows : List Row) → IsProof t d rows
    → length (rows_text (known_names t d) 1 rows) ≤ byte_limit → (k : ℕ) (row : Row) → member rows k ≡ Some row
    → row_fits k row ≡ true
