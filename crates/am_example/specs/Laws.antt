-- What holds in the example world.
use Rattle.std.specs.Prelude.{◌≡◌, ◌++◌, ℕ, ℤ, pos, List, [], ◌∷◌, map}
use Rattle.std.specs.List.{flat_map}
use Rattle.am_theory.specs.declared.theory.Theory.{Theory}
use Rattle.am_theory.specs.Contents.{contents, symbol_names}
use Rattle.am_diagram.specs.Steps.{formulas_of}
use Rattle.am_fortran.specs.Text.{unit_text}
use Rattle.am_world.specs.Interpretation.{IsWorld}
use Rattle.am_world.specs.Truth.{Models}
use Rattle.am_example.specs.ExampleTheory.{te}
use Rattle.am_example.specs.ExampleWorld.{example_world, meanings}
use Rattle.am_example.specs.NearestPoint.{nearsc, nearsc_unit, nearsc_lines, RunGives}
use Rattle.am_example.specs.Whole.{zigzag, unzigzag}

-- each whole number is told by one natural number, and each natural number tells one
pub record IsTelling : Type 0 where
  pub told : (z : ℤ) → unzigzag (zigzag z) ≡ z
  pub tells : (n : ℕ) → zigzag (unzigzag n) ≡ n

-- the world speaks of the symbols of the theory, in their order
abbrev pub SpeaksOfSymbols : Type 0
SpeaksOfSymbols = map (λ (m : List ℕ × (List ℤ → ℤ)). m.0) meanings ≡ symbol_names te

-- some theory has what the example theory has
abbrev pub HasTheory : Type 0
HasTheory = (t : Theory) × (contents t ≡ te)

-- it is an interpretation of each theory that has what the example theory has
abbrev pub IsExampleWorld : Type 0
IsExampleWorld = (t : Theory) → contents t ≡ te → IsWorld t.sig example_world

-- in it the axioms of such a theory are true
abbrev pub ModelsExample : Type 0
ModelsExample = (t : Theory) → contents t ≡ te → Models t.sig (formulas_of t) example_world

-- the subroutine for the nearest point is printed as these lines
abbrev pub HasLines : Type 0
HasLines = unit_text nearsc_unit ≡ flat_map (λ (l : List ℕ). l ++ 10 ∷ []) nearsc_lines

-- on 5, 7, 2, 0, 3, 0, 0 it gives 8
abbrev pub GivesEight : Type 0
GivesEight = (t : Theory) → contents t ≡ te → RunGives t nearsc nearsc_unit (pos 5 ∷ pos 7 ∷ pos 2 ∷ pos 0 ∷ pos 3 ∷ pos 0 ∷ pos 0 ∷ []) (pos 8 ∷ [])
