-- Literals with their numbers, and the first member of a list from which something is made.
use Rattle.std.specs.Prelude.{◌+◌, ℕ, List, [], ◌∷◌, Option, Some, None}
use Rattle.am_term.specs.declared.term.Literal.{Literal}

-- a literal with its number in its clause
abbrev pub Numbered : Type 0
Numbered = ℕ × Literal

-- the literals, the first of which has the number n
abbrev pub with_numbers : ℕ → List Literal → List Numbered
with_numbers n [] = []
with_numbers n (l ∷ ls) = (n, l) ∷ with_numbers (n + 1) ls

abbrev pub the_number : Numbered → ℕ
the_number l = l.0

-- the first of the two that there is
abbrev pub or_else : {A : Type 0} → Option A → Option A → Option A
or_else (Some x) rest = Some x
or_else None rest = rest

-- what is made of the first member of which something is made
abbrev pub find_map : {A B : Type 0} → (A → Option B) → List A → Option B
find_map f [] = None
find_map f (x ∷ xs) = or_else (f x) (find_map f xs)
