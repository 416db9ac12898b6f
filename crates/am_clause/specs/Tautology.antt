-- Clauses that are true in every interpretation, as far as a look at the literals tells.
use Rattle.std.specs.Prelude.{◌&&◌, ◌||◌, Bool, false, not, List}
use Rattle.std.specs.Bool.{beq}
use Rattle.std.specs.List.{list_any}
use Rattle.am_term.specs.declared.term.Atom.{Atom}
use Rattle.am_term.specs.declared.term.Atom.TheVariants.{Rel, Eq}
use Rattle.am_term.specs.declared.term.Literal.{Literal}
use Rattle.am_term.specs.Same.{same_term, same_atom}
use Rattle.am_clause.specs.declared.clause.Clause.{Clause}

-- one atom with the other sign
unfoldable pub opposite : Literal → Literal → Bool
opposite l m = not (beq l.positive m.positive) && same_atom l.atom m.atom

abbrev pub equal_sides : Atom → Bool
equal_sides (Rel r args) = false
equal_sides (Eq left right) = same_term left right

-- a positive equation with equal sides
unfoldable pub is_identity : Literal → Bool
is_identity l = l.positive && equal_sides l.atom

-- some literal stands with both signs
unfoldable pub has_opposites : List Literal → Bool
has_opposites ls = list_any (λ l. list_any (opposite l) ls) ls

-- some literal stands with both signs, or some positive equation has equal sides
abbrev pub tautology : Clause → Bool
tautology c = has_opposites c.literals || list_any is_identity c.literals
