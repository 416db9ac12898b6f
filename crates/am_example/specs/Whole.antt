-- Whole numbers told by natural ones: 0, 1, 2, 3, 4 and so on tell 0, -1, 1, -2, 2 and so on.
use Rattle.std.specs.Prelude.{◌==◌, ◌+◌, ◌*◌, ◌/◌, ◌%◌, ℕ, ℤ, pos, negsuc, if◌then◌else◌}

-- the natural number that tells a whole number; `negsuc n` is the whole number -n - 1
unfoldable pub zigzag : ℤ → ℕ
zigzag (pos n) = n * 2
zigzag (negsuc n) = n * 2 + 1

-- the whole number that a natural number tells
unfoldable pub unzigzag : ℕ → ℤ
unzigzag m = if m % 2 == 0 then pos (m / 2) else negsuc (m / 2)
