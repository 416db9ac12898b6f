-- What holds of each theory that was read.
use Rattle.std.specs.Prelude.{◌≡◌, ℕ, List, Ok}
use Rattle.am_theory.specs.declared.theory.Theory.{Theory}
use Rattle.am_theory.specs.Contents.{contents}
use Rattle.am_theory.specs.Facts.{WellFormed}
use Rattle.am_theory.specs.Reading.{theory}

-- a theory that a file is, is well formed
abbrev pub ReadTheoriesAreWellFormed : Type 0
ReadTheoriesAreWellFormed = (bytes : List ℕ) (t : Theory) → theory bytes ≡ Ok (contents t) → WellFormed t
