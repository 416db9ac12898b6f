-- What a declaration of a diagram has, part by part, whatever its shape: what its faults look at.
use Rattle.std.specs.Prelude.{ℕ, List, [], ◌∷◌}
use Rattle.am_syntax.specs.declared.written.WrittenLiteral.{WrittenLiteral}
use Rattle.am_diagram.specs.declared.declaration.Declaration.{Declaration}
use Rattle.am_diagram.specs.declared.declaration.Declaration.TheVariants.{Input, Object, Output, Given, Require}

-- a dummy of the subroutine: an input or an output
pub record Dummy : Type 0 where
  pub name : List ℕ
  pub sort : List ℕ

-- each list has a member for each part of its kind, so none or one
pub record Parts : Type 0 where
  pub names : List (List ℕ)  -- the name that it declares
  pub sorts : List (List ℕ)  -- the sort that it names
  pub dummies : List Dummy  -- the dummy that it declares
  pub objects : List (List ℕ)  -- the object that it declares
  pub givens : List WrittenLiteral  -- what is given
  pub requirements : List WrittenLiteral  -- what is required

abbrev pub no_parts : Parts
no_parts = record { names = []; sorts = []; dummies = []; objects = []; givens = []; requirements = [] }

abbrev pub dummy_parts : List ℕ → List ℕ → Parts
dummy_parts n s = record no_parts { names = n ∷ []; sorts = s ∷ []; dummies = record { name = n; sort = s } ∷ [] }

abbrev pub parts : Declaration → Parts
parts (Input n s) = dummy_parts n s
parts (Object n s) = record no_parts { names = n ∷ []; sorts = s ∷ []; objects = n ∷ [] }
parts (Output n s) = dummy_parts n s
parts (Given l) = record no_parts { givens = l ∷ [] }
parts (Require l) = record no_parts { requirements = l ∷ [] }
