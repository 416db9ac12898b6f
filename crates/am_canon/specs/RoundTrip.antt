-- The canonical text of a theory that was read is read as this theory.
use Rattle.std.specs.Prelude.{◌≡◌, ◌≤◌, ℕ, Ok, List, length}
use Rattle.am_theory.specs.Contents.{Contents}
use Rattle.am_canon.specs.CanonicalText.{canon}
use Rattle.am_theory.specs.Limits.{file_limit}
use Rattle.am_theory.specs.Reading.{theory}

-- what a file declares is declared by its canonical text, where that is no longer than a file may be
abbrev pub CanonicalTextIsRead : Type 0
CanonicalTextIsRead = (bytes : List ℕ) (c : Contents) → theory bytes ≡ Ok c → length (canon c) ≤ file_limit → theory (canon c) ≡ Ok c
