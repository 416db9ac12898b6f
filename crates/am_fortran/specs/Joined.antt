-- Members with a separator between them.
use Rattle.std.specs.Prelude.{ℕ, List, [], ◌∷◌, ◌++◌}
use Rattle.std.specs.List.{flat_map}

-- the first member, and each later one behind a separator
unfoldable pub separated : List ℕ → List (List ℕ) → List ℕ
separated separator [] = []
separated separator (x ∷ xs) = x ++ flat_map (λ y. separator ++ y) xs
