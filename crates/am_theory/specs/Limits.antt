-- How much there may be.
use Rattle.std.specs.Prelude.{ℕ}

-- bytes of a file, and lists open in it at once
abbrev pub file_limit : ℕ
file_limit = 1048576

abbrev pub depth_limit : ℕ
depth_limit = 64

abbrev pub sort_limit : ℕ
sort_limit = 256

abbrev pub symbol_limit : ℕ
symbol_limit = 4096

abbrev pub axiom_limit : ℕ
axiom_limit = 2000

-- variables, clauses, and literals a clause in an axiom
abbrev pub variable_limit : ℕ
variable_limit = 32

abbrev pub clause_limit : ℕ
clause_limit = 64

abbrev pub literal_limit : ℕ
literal_limit = 16

-- arguments of a symbol, outputs of a routine, and arguments of a routine in all
abbrev pub argument_limit : ℕ
argument_limit = 12

abbrev pub output_limit : ℕ
output_limit = 12

abbrev pub call_limit : ℕ
call_limit = 18

-- the length of a text, an extent of an array, and the length of a literal text
abbrev pub length_limit : ℕ
length_limit = 1024

abbrev pub extent_limit : ℕ
extent_limit = 1000

abbrev pub text_limit : ℕ
text_limit = 32
