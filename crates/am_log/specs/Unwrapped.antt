-- For private contracts: how many bytes the first group has, and the text that a group's lines hold.
use Rattle.std.specs.Prelude.{◌==◌, ℕ, zero, suc, Option, Some, None, List, [], ◌∷◌, if◌then◌else◌}
use Rattle.std.specs.Str.{bytes_eq}
use Rattle.am_log.specs.Cut.{wrapped}
use Rattle.am_log.specs.Groups.{ends_group}

-- how many bytes the first group has
unfoldable pub first_length : List ℕ → ℕ
first_length [] = 0
first_length (b ∷ bs) = if ends_group b bs then 1 else suc (first_length bs)

-- what stands behind the first two bytes of each line; k more bytes are left out first
unfoldable pub unwrapped : ℕ → List ℕ → List ℕ
unwrapped k [] = []
unwrapped (suc k) (b ∷ bs) = unwrapped k bs
unwrapped zero (b ∷ bs) = if b == 10 then unwrapped 2 bs else b ∷ unwrapped zero bs

-- the text that the group is the lines of
unfoldable pub unwrapped_text : List ℕ → Option (List ℕ)
unwrapped_text g = if bytes_eq (wrapped (unwrapped 2 g)) g then Some (unwrapped 2 g) else None
