-- Which declarations and statements there are: what the type of a unit keeps.
use Rattle.std.specs.Prelude.{◌&&◌, ◌==◌, ℕ, Bool, true, not, length, nat_le, ◌^◌, ℤ, pos, negsuc, nat_lt}
use Rattle.std.specs.List.{list_all}
use Rattle.am_term.specs.Names.{is_fortran_name}
use Rattle.am_fortran.specs.declared.statement.FortranType.{FortranType}
use Rattle.am_fortran.specs.declared.statement.FortranType.TheVariants.{Double, Integer, Logical, Char, CharAny, DoubleVec, DoubleMat, IntegerVec}
use Rattle.am_fortran.specs.declared.statement.Decl.{Decl}
use Rattle.am_fortran.specs.declared.statement.Operand.{Operand}
use Rattle.am_fortran.specs.declared.statement.Operand.TheVariants as operand
use Rattle.am_fortran.specs.declared.statement.Statement.{Statement}
use Rattle.am_fortran.specs.declared.statement.Statement.TheVariants.{Call, Assign, Apply}

-- from least to most, both of them allowed
abbrev pub is_between : ℕ → ℕ → ℕ → Bool
is_between least most n = nat_le least n && nat_le n most

-- a length is 1 to 1,024, an extent 1 to 1,000
abbrev pub is_type : FortranType → Bool
is_type Double = true
is_type Integer = true
is_type Logical = true
is_type (Char n) = is_between 1 1024 n
is_type CharAny = true
is_type (DoubleVec m) = is_between 1 1000 m
is_type (DoubleMat m n) = is_between 1 1000 m && is_between 1 1000 n
is_type (IntegerVec m) = is_between 1 1000 m

abbrev pub is_declaration : Decl → Bool
is_declaration d = is_type d.ty && is_fortran_name d.name

-- what may stand in a text: the printing characters but the apostrophe and the quotation mark
abbrev pub is_unit_text_byte : ℕ → Bool
is_unit_text_byte b = is_between 32 126 b && (not (b == 34) && not (b == 39))

-- a text has 1 to 32 bytes
abbrev pub is_operand : Operand → Bool
is_operand (operand.Name n) = is_fortran_name n
is_operand (operand.Int z) = true
is_operand (operand.Text t) = list_all is_unit_text_byte t && is_between 1 32 (length t)

-- a call has 1 to 18 arguments, a function 0 to 12
unfoldable pub is_statement : Statement → Bool
is_statement (Call r args) = is_fortran_name r && (list_all is_operand args && is_between 1 18 (length args))
is_statement (Assign t from) = is_fortran_name t && is_operand from
is_statement (Apply t f args) = is_fortran_name t && (is_fortran_name f && (list_all is_operand args && nat_le (length args) 12))

-- from -2 ^ 63 to 2 ^ 63 - 1
abbrev pub is_i64 : ℤ → Bool
is_i64 (pos n) = nat_lt n (2 ^ 63)
is_i64 (negsuc n) = nat_lt n (2 ^ 63)

-- the numbers of the code's type are those of 64 bits
abbrev pub fits_operand : Operand → Bool
fits_operand (operand.Name n) = true
fits_operand (operand.Int z) = is_i64 z
fits_operand (operand.Text t) = true

unfoldable pub fits_statement : Statement → Bool
fits_statement (Call r args) = list_all fits_operand args
fits_statement (Assign t from) = fits_operand from
fits_statement (Apply t f args) = list_all fits_operand args
