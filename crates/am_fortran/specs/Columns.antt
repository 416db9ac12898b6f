-- The laws of the text of units: it is one unit's alone, and it keeps the columns of the fixed form.
use Rattle.std.specs.Prelude.{◌≡◌, ◌≤◌, ◌+◌, List, Some, true, length, slice_get}
use Rattle.std.specs.List.{All}
use Rattle.am_fortran.specs.Lines.{Line, lines_of, groups}
use Rattle.am_fortran.specs.Text.{unit_text}
use Rattle.am_fortran.specs.Units.{IsUnit}
use Rattle.am_fortran.specs.declared.unit.Unit.{Unit as Subroutine}

-- two units that have one text are equal
abbrev pub OneText : Type 0
OneText = (u v : Subroutine) → IsUnit u → IsUnit v → unit_text u ≡ unit_text v → u ≡ v

-- the line is ended, has at most 72 columns and doesn't begin with C, as a comment line does
pub record KeepsColumns (l : Line) : Type 0 where
  pub ended : l.ended ≡ true
  pub short : length l.text ≤ 72
  pub no_comment : slice_get l.text 0 ≡ Some 67 → ⊥

-- each line of a unit's text does so, and no statement has more than 18 continuation lines
pub record FitsCard (u : Subroutine) : Type 0 where
  pub columns : All KeepsColumns (lines_of (unit_text u))
  pub continuations : All (λ (g : List Line). length g ≤ 18 + 1) (groups (lines_of (unit_text u)))

abbrev pub EachFitsCard : Type 0
EachFitsCard = (u : Subroutine) → IsUnit u → FitsCard u
