-- Which units there are, beside what their type keeps, and what a unit is made of.
use Rattle.std.specs.Prelude.{◌≡◌, true, List, [], ◌∷◌, ◌++◌, map}
use Rattle.std.specs.List.{list_all}
use Rattle.am_fortran.specs.Well.{fits_statement}
use Rattle.am_fortran.specs.declared.item.Item.{Item}
use Rattle.am_fortran.specs.declared.item.Item.TheVariants.{Head, Declaration, Executable, End}
use Rattle.am_fortran.specs.declared.unit.Unit.{Unit as Subroutine}

-- the numbers are those of 64 bits, as in the code's type; the type itself keeps the rest
pub record IsUnit (u : Subroutine) : Type 0 where
  pub fits : list_all fits_statement u.statements ≡ true

-- the head, the declarations, the executable statements and the end
unfoldable pub unit_items : Subroutine → List Item
unit_items u = Head u.name u.dummies ∷ map Declaration u.declarations ++ map Executable u.statements ++ End ∷ []
