-- Files by name in memory.
use Rattle.std.specs.Prelude.{ℕ, ◌==◌, Bool, ◌||◌, List, Option, Vec, is_none}
use Rattle.std.specs.declared.alloc.Global.{Global}
use Rattle.std.specs.List.{find, list_any}
use Rattle.std.specs.Option.{option_map}
use Rattle.std.specs.Str.{bytes_eq}

-- the bytes of the first file of that name
abbrev pub file_of : List (List ℕ × Vec ℕ Global) → List ℕ → Option (List ℕ)
file_of files name = option_map (λ file. file.1.items) (find (λ file. bytes_eq file.0 name) files)

-- whether a call of this number for this name fails: the number is listed, or the name isn't there
abbrev pub fails_at : List (List ℕ × Vec ℕ Global) → List ℕ → ℕ → List ℕ → Bool
fails_at files listed call name = list_any (λ number. number == call) listed || is_none (file_of files name)
