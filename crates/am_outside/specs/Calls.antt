-- Counts of 64 bits, and numbers of calls, from 1.
use Rattle.std.specs.Prelude.{ℕ, ◌+◌, ◌-◌, ◌^◌, min, Bool, ◌&&◌, nat_lt, nat_le, List}
use Rattle.std.specs.List.{list_all}

-- a count after one more, which stays at its last value
abbrev pub counted_up : ℕ → ℕ
counted_up before = min (before + 1) (2 ^ 64 - 1)

-- No listed number names a call that is still to come, after so many calls. The last value of a count
-- always counts as still to come.
abbrev pub all_past : ℕ → List ℕ → Bool
all_past calls listed = list_all (λ number. nat_le number calls && nat_lt number (2 ^ 64 - 1)) listed
