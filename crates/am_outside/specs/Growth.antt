-- What is told of bytes that an outside thing holds, where it tells them.
use Rattle.std.specs.Prelude.{◌≡◌, ℕ, List, Option, Some, take}
use Rattle.std.specs.Io.KnownBytes.{append_known}

-- what is held, where it is told, is what was held and then these bytes
abbrev pub Grows : Option (List ℕ) → Option (List ℕ) → List ℕ → Type 0
Grows old new bytes = new ≡ append_known old bytes

-- what is held, where it is told, is what was held and then some first bytes of these
abbrev pub GrowsByPart : Option (List ℕ) → Option (List ℕ) → List ℕ → Type 0
GrowsByPart old new bytes = (n : ℕ) × (new ≡ append_known old (take n bytes))

-- a fact of the bytes, where they are told
abbrev pub WhereTold : Option (List ℕ) → (List ℕ → Type 0) → Type 0
WhereTold told P = (bytes : List ℕ) → told ≡ Some bytes → P bytes
