-- The number of a name in a list of names.
use Rattle.std.specs.Prelude.{◌+◌, ℕ, List, [], ◌∷◌, Option, Some, None, option_map, if◌then◌else◌}
use Rattle.std.specs.Str.{bytes_eq}

-- the first place of a name, from 0
abbrev pub position_of : List ℕ → List (List ℕ) → Option ℕ
position_of w [] = None
position_of w (x ∷ xs) = if bytes_eq w x then Some 0 else option_map (λ k. k + 1) (position_of w xs)
