-- Words of private contracts: flags for the rows of a log, and numbers that are counted from them.
use Rattle.std.specs.Prelude.{◌≡◌, ◌↔◌, ◌++◌, ℕ, zero, suc, Bool, true, false, List, [], ◌∷◌, length, slice_get, Option, Some, None, IsTrue}
use Rattle.am_term.specs.Place.{member, with_member}
use Rattle.am_clause.specs.declared.row.Row.{Row}
use Rattle.am_clause.specs.Ancestors.{parents_of, count_to, RestsOn}

-- a flag, and false where there is none
abbrev pub flag_of : Option Bool → Bool
flag_of None = false
flag_of (Some b) = b

-- the flag of a row, by its number from 1
abbrev pub is_marked : List Bool → ℕ → Bool
is_marked flags n = flag_of (member flags n)

-- so many flags that are false
abbrev pub falses : ℕ → List Bool
falses zero = []
falses (suc n) = falses n ++ false ∷ []

-- the flags with those of some rows set
abbrev pub marked_by : List Bool → List ℕ → List Bool
marked_by flags [] = flags
marked_by flags (p ∷ ps) = marked_by (with_member flags p true) ps

-- the flags with those of a row's parents set, where the row is there and is marked
abbrev pub parents_marked : List Bool → Option Row → Bool → List Bool
parents_marked flags None b = flags
parents_marked flags (Some r) true = marked_by flags (parents_of r.rule)
parents_marked flags (Some r) false = flags

-- the same of the row at a place from 0
abbrev pub stepped : List Row → ℕ → List Bool → List Bool
stepped rows place flags = parents_marked flags (slice_get rows place) (flag_of (slice_get flags place))

-- exactly the rows are marked that the last one rests on
pub record AreMarked (rows : List Row) (last : ℕ) (flags : List Bool) : Type 0 where
  pub long : length flags ≡ last
  pub those : (n : ℕ) → IsTrue (is_marked flags n) ↔ RestsOn rows last n

-- for each row up to the n-th how many up to it stay
abbrev pub counts_to : (ℕ → Bool) → ℕ → List ℕ
counts_to stays zero = []
counts_to stays (suc n) = counts_to stays n ++ count_to stays (suc n) ∷ []

abbrev pub number_or_zero : Option ℕ → ℕ
number_or_zero None = 0
number_or_zero (Some n) = n

-- the number listed for a row, by its old number from 1
abbrev pub new_number : List ℕ → ℕ → ℕ
new_number numbers p = number_or_zero (member numbers p)
