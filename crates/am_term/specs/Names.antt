-- How names are spelled in files and in FORTRAN text.
use Rattle.std.specs.Prelude.{◌||◌, ◌&&◌, ◌==◌, ℕ, Bool, false, not, List, [], ◌∷◌, length, codes, nat_le}
use Rattle.std.specs.List.{list_all}
use Rattle.std.specs.Str.{bytes_eq}

-- A to Z
abbrev pub is_upper : ℕ → Bool
is_upper b = nat_le 65 b && nat_le b 90

-- a to z
abbrev pub is_lower : ℕ → Bool
is_lower b = nat_le 97 b && nat_le b 122

-- 0 to 9
abbrev pub is_digit : ℕ → Bool
is_digit b = nat_le 48 b && nat_le b 57

-- what a name of a file goes on with: lower-case letters, digits and the hyphen
abbrev pub is_name_byte : ℕ → Bool
is_name_byte b = is_lower b || (is_digit b || b == 45)

-- what a FORTRAN name goes on with: upper-case letters and digits
abbrev pub is_fortran_byte : ℕ → Bool
is_fortran_byte b = is_upper b || is_digit b

-- the words of formulas, which name nothing
abbrev pub is_reserved : List ℕ → Bool
is_reserved n = bytes_eq n (codes "all") || (bytes_eq n (codes "exists") || (bytes_eq n (codes "and") || (bytes_eq n (codes "or") || bytes_eq n (codes "not"))))

-- a lower-case letter and then lower-case letters, digits and hyphens, at most 31 bytes in all, and no reserved word
unfoldable pub is_name : List ℕ → Bool
is_name [] = false
is_name (b ∷ bs) = is_lower b && (list_all is_name_byte bs && (nat_le (length bs) 30 && not (is_reserved (b ∷ bs))))

-- one to six upper-case letters and digits that begin with a letter
unfoldable pub is_fortran_name : List ℕ → Bool
is_fortran_name [] = false
is_fortran_name (b ∷ bs) = is_upper b && (list_all is_fortran_byte bs && nat_le (length bs) 5)

-- T and five digits: the names of a unit's own locals
unfoldable pub is_local_name : List ℕ → Bool
is_local_name [] = false
is_local_name (b ∷ bs) = b == 84 && (list_all is_digit bs && length bs == 5)
