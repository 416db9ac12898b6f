-- Lists without repetitions: of what is the same, the first stays.
use Rattle.std.specs.Prelude.{◌++◌, Bool, not, List, [], ◌∷◌, if◌then◌else◌}
use Rattle.std.specs.List.{filter, list_any, fold}

module _ {X : Type 0} (same : X → X → Bool) where
  -- whether a member of the list is the same
  abbrev pub among : X → List X → Bool
  among x xs = list_any (same x) xs

  -- the members that aren't the same as one before them, in order
  abbrev pub distinct : List X → List X
  distinct [] = []
  distinct (x ∷ xs) = x ∷ filter (λ y. not (same x y)) (distinct xs)

  -- what was seen, unless x is new: then x follows
  abbrev pub with_one : List X → X → List X
  with_one seen x = if among x seen then seen else seen ++ x ∷ []

  -- what was seen, and then each of xs that is new there
  unfoldable pub with_new : List X → List X → List X
  with_new seen xs = fold with_one seen xs
