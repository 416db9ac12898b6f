-- The item that words may spell. Whether they do shows when its text is written and compared, so
-- a word that is out of place is taken as it comes, and what is no number is 0.
use Rattle.std.specs.Prelude.{◌&&◌, ◌==◌, ◌+◌, ◌*◌, ◌-◌, ◌^◌, ℕ, ℤ, pos, neg_ℤ, Bool, true, List, [], ◌∷◌, codes, map, drop, nat_lt, nat_le, if◌then◌else◌}
use Rattle.std.specs.List.{list_all}
use Rattle.std.specs.Char.{is_ascii_digit}
use Rattle.std.specs.Str.{bytes_eq}
use Rattle.am_fortran.specs.declared.item.Item.{Item}
use Rattle.am_fortran.specs.declared.item.Item.TheVariants.{Head, Declaration, Executable, End}
use Rattle.am_fortran.specs.declared.statement.FortranType.{FortranType}
use Rattle.am_fortran.specs.declared.statement.FortranType.TheVariants.{Double, Integer, Logical, Char, CharAny, DoubleVec, DoubleMat, IntegerVec}
use Rattle.am_fortran.specs.declared.statement.Decl.{Decl}
use Rattle.am_fortran.specs.declared.statement.Operand.{Operand}
use Rattle.am_fortran.specs.declared.statement.Operand.TheVariants as operand
use Rattle.am_fortran.specs.declared.statement.Statement.{Statement}
use Rattle.am_fortran.specs.declared.statement.Statement.TheVariants.{Call, Assign, Apply}

-- the number that digits stand for, behind the digits of n
abbrev pub add_digits : ℕ → List ℕ → ℕ
add_digits n [] = n
add_digits n (c ∷ cs) = add_digits (10 * n + (c - 48)) cs

-- digits below 2 ^ 32
unfoldable pub small_number : List ℕ → ℕ
small_number word = if list_all is_ascii_digit word && nat_lt (add_digits 0 word) (2 ^ 32) then add_digits 0 word else 0

abbrev pub is_signed_digits : List ℕ → Bool
is_signed_digits [] = true
is_signed_digits (b ∷ bs) = if b == 45 then list_all is_ascii_digit bs else list_all is_ascii_digit (b ∷ bs)

-- what digits, with a minus sign or without, stand for
abbrev pub signed_value : List ℕ → ℤ
signed_value [] = pos 0
signed_value (b ∷ bs) = if b == 45 then neg_ℤ (pos (add_digits 0 bs)) else pos (add_digits 0 (b ∷ bs))

abbrev pub fits_value : List ℕ → Bool
fits_value [] = true
fits_value (b ∷ bs) = if b == 45 then nat_le (add_digits 0 bs) (2 ^ 63) else nat_lt (add_digits 0 (b ∷ bs)) (2 ^ 63)

-- digits of an i64, with a minus sign or without
unfoldable pub integer_of : List ℕ → ℤ
integer_of word = if is_signed_digits word && fits_value word then signed_value word else pos 0

-- an apostrophe begins a text, a digit or a minus sign a number
unfoldable pub operand_of : List ℕ → Operand
operand_of [] = operand.Name []
operand_of (b ∷ bs) =
    if b == 39 then operand.Text bs
    else if is_ascii_digit b then operand.Int (integer_of (b ∷ bs))
    else if b == 45 then operand.Int (integer_of (b ∷ bs))
    else operand.Name (b ∷ bs)

-- behind the equals sign: one operand, or a function and its arguments
unfoldable pub assigned : List ℕ → List (List ℕ) → Statement
assigned target [] = Assign target (operand.Name [])
assigned target (from ∷ []) = Assign target (operand_of from)
assigned target (function ∷ parenthesis ∷ args) = Apply target function (map operand_of args)

unfoldable pub integer_type_of : List (List ℕ) → FortranType
integer_type_of [] = Integer
integer_type_of (parenthesis ∷ []) = Integer
integer_type_of (parenthesis ∷ extent ∷ more) = IntegerVec (small_number extent)

unfoldable pub double_of : List (List ℕ) → FortranType
double_of [] = Double
double_of (parenthesis ∷ []) = Double
double_of (parenthesis ∷ extent ∷ []) = DoubleVec (small_number extent)
double_of (parenthesis ∷ rows ∷ columns ∷ more) = DoubleMat (small_number rows) (small_number columns)

abbrev pub first_or_none : List (List ℕ) → List ℕ
first_or_none [] = []
first_or_none (w ∷ ws) = w

-- a declaration by its first word, its second and the rest
unfoldable pub guessed_declaration : List ℕ → List ℕ → List (List ℕ) → Decl
guessed_declaration first second rest =
    if bytes_eq first (codes "INTEGER") then record { ty = integer_type_of rest; name = second }
    else if bytes_eq first (codes "LOGICAL") then record { ty = Logical; name = second }
    else if bytes_eq first (codes "DOUBLE") then record { ty = double_of (drop 1 rest); name = first_or_none rest }
    else if bytes_eq second (codes "(") then record { ty = CharAny; name = first_or_none rest }
    else record { ty = Char (small_number second); name = first_or_none rest }

unfoldable pub guessed : List (List ℕ) → Item
guessed [] = End
guessed (first ∷ []) = End
guessed (first ∷ second ∷ rest) =
    if bytes_eq second (codes "=") then Executable (assigned first rest)
    else if bytes_eq first (codes "SUBROUTINE") then Head second (drop 1 rest)
    else if bytes_eq first (codes "CALL") then Executable (Call second (map operand_of (drop 1 rest)))
    else Declaration (guessed_declaration first second rest)
