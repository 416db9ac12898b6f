-- What ends a line.
use Rattle.std.specs.Prelude.{◌==◌, ℕ, Bool, not, List}
use Rattle.std.specs.List.{list_all}

-- no byte ends a line
abbrev pub inline : List ℕ → Bool
inline = list_all (λ b. not (b == 10))
