-- What a page in memory takes of the bytes that are put to it.
use Rattle.std.specs.Prelude.{ℕ, ◌==◌, ◌-◌, min, cond, nat_lt, List, length, take, map, Option, None, Some}
use Rattle.std.specs.List.{find}
use Rattle.std.specs.Option.{option_map}
use Rattle.am_outside.specs.Calls.{all_past}

-- how many bytes are planned for the call of this number, by the first pair that names it
abbrev pub planned : List (ℕ × ℕ) → ℕ → Option ℕ
planned pairs call = option_map (λ pair. pair.1) (find (λ pair. pair.0 == call) pairs)

-- After how many bytes a put of so many bytes stops and fails: what is planned or what fits, whichever
-- is less. None where nothing is planned and all fit: it doesn't fail.
abbrev pub stop_of : Option ℕ → ℕ → ℕ → Option ℕ
stop_of (Some count) left length = Some (min count (min left length))
stop_of None left length = cond (nat_lt left length) (Some left) None

-- the bytes up to the stop, or all
abbrev pub up_to : Option ℕ → List ℕ → List ℕ
up_to (Some count) bytes = take count bytes
up_to None bytes = bytes

-- How many bytes can still be put without a failure: the room that is left, where no failure is
-- planned any more, else 0.
abbrev pub sure_bytes : ℕ → ℕ → ℕ → List (ℕ × ℕ) → ℕ
sure_bytes held room calls pairs = cond (all_past calls (map (λ pair. pair.0) pairs)) (room - held) 0
