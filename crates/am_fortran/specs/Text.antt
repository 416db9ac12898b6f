-- The text of a unit, in the fixed form of ANSI X3.9-1978. The layout is this project's own.
use Rattle.std.specs.Prelude.{◌+◌, ℕ, List, [], ◌∷◌, ◌++◌, length, nat_le, codes, map, if◌then◌else◌}
use Rattle.std.specs.List.{flat_map}
use Rattle.std.specs.Fmt.{decimal, signed_decimal}
use Rattle.am_fortran.specs.declared.statement.FortranType.{FortranType}
use Rattle.am_fortran.specs.declared.statement.FortranType.TheVariants.{Double, Integer, Logical, Char, CharAny, DoubleVec, DoubleMat, IntegerVec}
use Rattle.am_fortran.specs.declared.statement.Decl.{Decl}
use Rattle.am_fortran.specs.declared.statement.Operand.{Operand}
use Rattle.am_fortran.specs.declared.statement.Operand.TheVariants as operand
use Rattle.am_fortran.specs.declared.statement.Statement.{Statement}
use Rattle.am_fortran.specs.declared.statement.Statement.TheVariants.{Call, Assign, Apply}
use Rattle.am_fortran.specs.declared.unit.Unit.{Unit as Subroutine}

-- one line: six blanks, a statement, and the byte that ends the line
unfoldable pub line : List ℕ → List ℕ
line statement = codes "      " ++ statement ++ 10 ∷ []

-- members with a comma and a blank between them
unfoldable pub with_commas : List (List ℕ) → List ℕ
with_commas [] = []
with_commas (x ∷ []) = x
with_commas (x ∷ y ∷ ys) = x ++ codes ", " ++ with_commas (y ∷ ys)

-- a continuation line for each member: a comma stands after it, and a parenthesis after the last
unfoldable pub continued : List (List ℕ) → List ℕ
continued [] = []
continued (x ∷ []) = codes "     . " ++ x ++ codes ")" ++ 10 ∷ []
continued (x ∷ y ∷ ys) = codes "     . " ++ x ++ codes "," ++ 10 ∷ [] ++ continued (y ∷ ys)

-- a statement that ends with a list in parentheses: on one line where it fits 72 columns, else the
-- list on lines of its own. `front` ends with the parenthesis that opens.
unfoldable pub with_list : List ℕ → List (List ℕ) → List ℕ
with_list front members =
    if nat_le (6 + length (front ++ with_commas members ++ codes ")")) 72
    then line (front ++ with_commas members ++ codes ")")
    else line front ++ continued members

-- an operand: a name, a number in decimal, or a text between apostrophes
abbrev pub operand_text : Operand → List ℕ
operand_text (operand.Name n) = n
operand_text (operand.Int z) = signed_decimal z
operand_text (operand.Text t) = 39 ∷ t ++ 39 ∷ []

-- what stands before the name of a declaration
abbrev pub type_text : FortranType → List ℕ
type_text Double = codes "DOUBLE PRECISION "
type_text Integer = codes "INTEGER "
type_text Logical = codes "LOGICAL "
type_text (Char n) = codes "CHARACTER*" ++ decimal n ++ codes " "
type_text CharAny = codes "CHARACTER*(*) "
type_text (DoubleVec m) = codes "DOUBLE PRECISION "
type_text (DoubleMat m n) = codes "DOUBLE PRECISION "
type_text (IntegerVec m) = codes "INTEGER "

-- what stands behind the name of a declaration
abbrev pub extents_text : FortranType → List ℕ
extents_text Double = []
extents_text Integer = []
extents_text Logical = []
extents_text (Char n) = []
extents_text CharAny = []
extents_text (DoubleVec m) = codes "(" ++ decimal m ++ codes ")"
extents_text (DoubleMat m n) = codes "(" ++ decimal m ++ codes "," ++ decimal n ++ codes ")"
extents_text (IntegerVec m) = codes "(" ++ decimal m ++ codes ")"

unfoldable pub declaration_text : Decl → List ℕ
declaration_text d = line (type_text d.ty ++ d.name ++ extents_text d.ty)

unfoldable pub statement_text : Statement → List ℕ
statement_text (Call r args) = with_list (codes "CALL " ++ r ++ codes "(") (map operand_text args)
statement_text (Assign t from) = line (t ++ codes " = " ++ operand_text from)
statement_text (Apply t f args) = with_list (t ++ codes " = " ++ f ++ codes "(") (map operand_text args)

unfoldable pub head_text : List ℕ → List (List ℕ) → List ℕ
head_text name dummies = with_list (codes "SUBROUTINE " ++ name ++ codes "(") dummies

-- the head, the declarations, the statements and the end
unfoldable pub unit_text : Subroutine → List ℕ
unit_text u = head_text u.name u.dummies ++ flat_map declaration_text u.declarations ++ flat_map statement_text u.statements ++ line (codes "END")
