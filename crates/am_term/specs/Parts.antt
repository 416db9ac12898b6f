-- Parts of atoms and literals, by paths. The first number of a path is that of an argument of the relation, or of a
-- side of the equation, from 1; the others go down from there as in a term.
use Rattle.std.specs.Prelude.{ℕ, zero, suc, List, [], ◌∷◌, Option, Some, None, option_map, option_and_then}
use Rattle.std.specs.List.{remove}
use Rattle.am_term.specs.declared.term.Term.{Term}
use Rattle.am_term.specs.declared.term.Atom.{Atom}
use Rattle.am_term.specs.declared.term.Atom.TheVariants.{Rel, Eq}
use Rattle.am_term.specs.declared.term.Literal.{Literal}
use Rattle.am_term.specs.Place.{member, with_member, place, replaced}

-- the list without the member at a number, from 1; all of it where it has none there
abbrev pub without : {A : Type 0} → List A → ℕ → List A
without xs zero = xs
without xs (suc i) = remove xs i

-- the arguments of a relation, or both sides of an equation
abbrev pub parts_of : Atom → List Term
parts_of (Rel r args) = args
parts_of (Eq left right) = left ∷ right ∷ []

-- the equation with another side: 1 is the left one, any later number the right one, and 0 none
abbrev pub with_side : Term → Term → ℕ → Term → Atom
with_side left right zero new = Eq left right
with_side left right (suc zero) new = Eq new right
with_side left right (suc (suc k)) new = Eq left new

-- the atom with another argument or side at a number that it has
abbrev pub with_part : Atom → ℕ → Term → Atom
with_part (Rel r args) k new = Rel r (with_member args k new)
with_part (Eq left right) k new = with_side left right k new

-- the part at a path: none at the empty path, which names the atom, and where the path leaves it
abbrev pub place_in : List ℕ → Atom → Option Term
place_in [] a = None
place_in (k ∷ path) a = option_and_then (place path) (member (parts_of a) k)

-- the atom with another part at a path, and none where there is no part
abbrev pub replaced_in : Term → List ℕ → Atom → Option Atom
replaced_in new [] a = None
replaced_in new (k ∷ path) a = option_map (with_part a k) (option_and_then (replaced new path) (member (parts_of a) k))

-- the literal with that atom, and unchanged where there is none
abbrev pub with_atom : Literal → Option Atom → Literal
with_atom l None = l
with_atom l (Some a) = record { positive = l.positive; atom = a }

-- the literal with another part at a path, and unchanged where it has no part there
abbrev pub replaced_literal : Term → List ℕ → Literal → Literal
replaced_literal new path l = with_atom l (replaced_in new path l.atom)
