-- How much there may be in a diagram.
use Rattle.std.specs.Prelude.{ℕ}

-- inputs and outputs together
abbrev pub dummy_limit : ℕ
dummy_limit = 18

abbrev pub object_limit : ℕ
object_limit = 32

abbrev pub given_limit : ℕ
given_limit = 256

abbrev pub requirement_limit : ℕ
requirement_limit = 16
