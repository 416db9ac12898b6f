-- Units: rows that rewrite, each from the greater side of its equation.
use Rattle.std.specs.Prelude.{◌++◌, ◌<◌, ℕ, suc, Bool, List, [], ◌∷◌, Option, Some, None, is_none, is_some, nat_lt, if◌then◌else◌}
use Rattle.std.specs.List.{AllByRecursion}
use Rattle.am_term.specs.declared.signature.Signature.{Signature}
use Rattle.am_term.specs.declared.term.Atom.{Atom}
use Rattle.am_term.specs.declared.term.Atom.TheVariants.{Rel, Eq}
use Rattle.am_term.specs.declared.term.Literal.{Literal}
use Rattle.am_order.specs.Order.{greater}
use Rattle.am_clause.specs.declared.clause.Clause.{Clause}
use Rattle.am_clause.specs.declared.row.Side.{Side}
use Rattle.am_clause.specs.declared.row.Side.TheVariants.{Left, Right}
use Rattle.am_simplify.specs.Reasons.{NumberedClause}
use Rattle.am_simplify.specs.declared.step.Unit.{Unit}

-- the side of an equation that is greater than the other
abbrev pub greater_side : Signature → Atom → Option Side
greater_side sig (Rel r args) = None
greater_side sig (Eq left right) = if greater sig left right then Some Left else if greater sig right left then Some Right else None

-- of one literal, a positive equation, the greater side
abbrev pub side_of_literals : Signature → List Literal → Option Side
side_of_literals sig [] = None
side_of_literals sig (l ∷ []) = if l.positive then greater_side sig l.atom else None
side_of_literals sig (l ∷ m ∷ ls) = None

-- the side from which a clause rewrites: it has one literal, a positive equation with a greater side, and no answer
abbrev pub unit_side : Signature → Clause → Option Side
unit_side sig c = if is_none c.answer then side_of_literals sig c.literals else None

abbrev pub is_unit : Signature → NumberedClause → Bool
is_unit sig row = is_some (unit_side sig row.1)

abbrev pub unit_with : ℕ → Clause → Option Side → List Unit
unit_with n c None = []
unit_with n c (Some side) = record { row = n; side = side; clause = c } ∷ []

-- the row as a unit, if it is one
abbrev pub unit_of : Signature → NumberedClause → List Unit
unit_of sig row = unit_with row.0 row.1 (unit_side sig row.1)

-- the units among the rows, in order
abbrev pub units : Signature → List NumberedClause → List Unit
units sig [] = []
units sig (row ∷ rows) = unit_of sig row ++ units sig rows

-- how many units from the front have smaller numbers
abbrev pub place_of : ℕ → List Unit → ℕ
place_of n [] = 0
place_of n (v ∷ vs) = if nat_lt v.row n then suc (place_of n vs) else 0

-- one more unit, before the first whose number isn't smaller
abbrev pub with_unit : Unit → List Unit → List Unit
with_unit u [] = u ∷ []
with_unit u (v ∷ vs) = if nat_lt v.row u.row then v ∷ with_unit u vs else u ∷ v ∷ vs

-- so with each of a list
abbrev pub with_units : List Unit → List Unit → List Unit
with_units [] vs = vs
with_units (u ∷ us) vs = with_unit u (with_units us vs)

-- the same of rows
abbrev pub with_row : NumberedClause → List NumberedClause → List NumberedClause
with_row row [] = row ∷ []
with_row row (r ∷ rows) = if nat_lt r.0 row.0 then r ∷ with_row row rows else row ∷ r ∷ rows

-- the numbers rise
abbrev pub AreRising : List NumberedClause → Type 0
AreRising [] = Prim.Unit {0}
AreRising (row ∷ rows) = AllByRecursion (λ r. row.0 < r.0) rows × AreRising rows
