-- What holds of each diagram that was read.
use Rattle.std.specs.Prelude.{◌≡◌, ℕ, List, Ok}
use Rattle.am_theory.specs.declared.theory.Theory.{Theory}
use Rattle.am_theory.specs.Facts.{WellFormed as WellFormedTheory}
use Rattle.am_diagram.specs.declared.diagram.Diagram.{Diagram}
use Rattle.am_diagram.specs.Facts.{WellFormed}
use Rattle.am_diagram.specs.Reading.{diagram}

-- a diagram that a file is over a well-formed theory, is well formed
abbrev pub ReadDiagramsAreWellFormed : Type 0
ReadDiagramsAreWellFormed = (t : Theory) (bytes : List ℕ) (d : Diagram) → WellFormedTheory t → diagram t bytes ≡ Ok d → WellFormed t d
