-- What a declaration has, part by part, whatever its shape: what its faults look at.
use Rattle.std.specs.Prelude.{◌+◌, ℕ, Option, List, [], ◌∷◌, map, length}
use Rattle.am_syntax.specs.declared.written.WrittenFormula.{WrittenFormula}
use Rattle.am_theory.specs.declared.theory.LitValue.{LitValue}
use Rattle.am_theory.specs.declared.declaration.WrittenRep.{WrittenRep}
use Rattle.am_theory.specs.declared.declaration.Typed.{Typed}
use Rattle.am_theory.specs.declared.declaration.Declaration.{Declaration}
use Rattle.am_theory.specs.declared.declaration.Declaration.TheVariants as decl
use Rattle.am_theory.specs.Limits.{variable_limit, argument_limit, output_limit, call_limit}

abbrev pub sorts_in : List Typed → List (List ℕ)
sorts_in = map (λ (v : Typed). v.sort)

-- the sort of one place, or the sorts of places in a row
pub data Sorts : Type 0 where
  One : List ℕ → Sorts
  Each : List (List ℕ) → Sorts

-- one symbol, or the symbols that are outputs
pub data Symbols : Type 0 where
  New : List ℕ → Symbols
  Outputs : List Typed → Symbols

-- a representation and a copy routine, each if there is one
pub record Represented : Type 0 where
  pub rep : Option WrittenRep
  pub copy : Option (List ℕ)

-- a value for a sort
pub record Valued : Type 0 where
  pub sort : List ℕ
  pub value : LitValue

-- a formula with its variables
pub record Stated : Type 0 where
  pub variables : List Typed
  pub formula : WrittenFormula

-- a count, and what it may be at most
pub record Counted : Type 0 where
  pub most : ℕ
  pub many : ℕ

-- each list has a member for each part of its kind, so mostly none or one
pub record Parts : Type 0 where
  pub since : List ℕ  -- the first version of files that may have it, if that isn't the first of all
  pub new_sorts : List (List ℕ)  -- the names of sorts that it declares
  pub represented : List Represented  -- with what these are represented
  pub new_symbols : List Symbols  -- the symbols that it declares
  pub sorts : List Sorts  -- the sorts that it names
  pub concrete : List Sorts  -- those of them that must have a representation
  pub returned : List (List ℕ)  -- the sort that a FORTRAN function returns
  pub values : List Valued  -- the value that a literal has
  pub called : List (List ℕ)  -- the FORTRAN name of a routine or function
  pub stated : List Stated  -- the formula of an axiom
  pub counts : List Counted  -- what is counted

abbrev pub no_parts : Parts
no_parts = record {
  since = [];
  new_sorts = [];
  represented = [];
  new_symbols = [];
  sorts = [];
  concrete = [];
  returned = [];
  values = [];
  called = [];
  stated = [];
  counts = [];
}

-- at most so many
abbrev pub at_most : ℕ → ℕ → Counted
at_most most many = record { most = most; many = many }

abbrev pub parts : Declaration → Parts
parts (decl.Sort n r copy) = record no_parts { new_sorts = n ∷ []; represented = record { rep = r; copy = copy } ∷ [] }
parts (decl.Subsort n s) = record no_parts { since = 2 ∷ []; new_sorts = n ∷ []; sorts = One s ∷ [] }
parts (decl.Function n args r) = record no_parts {
  new_symbols = New n ∷ [];
  sorts = Each args ∷ One r ∷ [];
  counts = at_most argument_limit (length args) ∷ [];
}
parts (decl.Relation n args) = record no_parts {
  new_symbols = New n ∷ [];
  sorts = Each args ∷ [];
  counts = at_most argument_limit (length args) ∷ [];
}
parts (decl.Literal n s v) = record no_parts {
  new_symbols = New n ∷ [];
  sorts = One s ∷ [];
  values = record { sort = s; value = v } ∷ [];
}
parts (decl.Routine n inputs outputs) = record no_parts {
  new_symbols = Outputs outputs ∷ [];
  sorts = Each inputs ∷ Each (sorts_in outputs) ∷ [];
  concrete = Each inputs ∷ Each (sorts_in outputs) ∷ [];
  called = n ∷ [];
  counts = at_most argument_limit (length inputs) ∷ at_most output_limit (length outputs)
      ∷ at_most call_limit (length inputs + length outputs) ∷ [];
}
parts (decl.Value f n args r) = record no_parts {
  new_symbols = New n ∷ [];
  sorts = Each args ∷ One r ∷ [];
  concrete = Each args ∷ [];
  returned = r ∷ [];
  called = f ∷ [];
  counts = at_most argument_limit (length args) ∷ [];
}
parts (decl.Axiom vs g) = record no_parts {
  sorts = Each (sorts_in vs) ∷ [];
  stated = record { variables = vs; formula = g } ∷ [];
  counts = at_most variable_limit (length vs) ∷ [];
}
