-- The FORTRAN type that a sort gives to a name.
use Rattle.std.specs.Prelude.{◌==◌, ◌&&◌, ℕ, Bool, true, false, Option, Some, None, List, if◌then◌else◌}
use Rattle.am_term.specs.declared.id.SortId.{SortId}
use Rattle.am_term.specs.NameLists.{is_among}
use Rattle.am_theory.specs.declared.theory.Rep.{Rep}
use Rattle.am_theory.specs.declared.theory.Rep.TheVariants.{Double, Integer, Logical, Char, DoubleVec, DoubleMat, IntegerVec}
use Rattle.am_theory.specs.declared.theory.Theory.{Theory}
use Rattle.am_theory.specs.Lookups.{rep_of}
use Rattle.am_fortran.specs.declared.statement.FortranType.{FortranType}
use Rattle.am_fortran.specs.declared.statement.FortranType.TheVariants as fortran

-- a dummy's text has whatever length its caller's has
abbrev pub dummy_type : Rep → FortranType
dummy_type Double = fortran.Double
dummy_type Integer = fortran.Integer
dummy_type Logical = fortran.Logical
dummy_type (Char n) = fortran.CharAny
dummy_type (DoubleVec m) = fortran.DoubleVec m
dummy_type (DoubleMat m n) = fortran.DoubleMat m n
dummy_type (IntegerVec m) = fortran.IntegerVec m

-- a local's text has the length of its sort
abbrev pub local_type : Rep → FortranType
local_type Double = fortran.Double
local_type Integer = fortran.Integer
local_type Logical = fortran.Logical
local_type (Char n) = fortran.Char n
local_type (DoubleVec m) = fortran.DoubleVec m
local_type (DoubleMat m n) = fortran.DoubleMat m n
local_type (IntegerVec m) = fortran.IntegerVec m

-- neither a text nor a number is an array
abbrev pub is_scalar : Rep → Bool
is_scalar Double = true
is_scalar Integer = true
is_scalar Logical = true
is_scalar (Char n) = true
is_scalar (DoubleVec m) = false
is_scalar (DoubleMat m n) = false
is_scalar (IntegerVec m) = false

abbrev pub type_by : (Rep → FortranType) → Option Rep → Option FortranType
type_by f None = None
type_by f (Some r) = Some (f r)

-- the type that a sort gives to a name, a dummy or not; an abstract sort gives none
abbrev pub type_of_name : Theory → List (List ℕ) → List ℕ → SortId → Option FortranType
type_of_name t dummies n s = if is_among n dummies then type_by dummy_type (rep_of t s) else type_by local_type (rep_of t s)

-- a text of whatever length: a dummy's type alone
abbrev pub is_text_of_any_length : FortranType → Bool
is_text_of_any_length fortran.CharAny = true
is_text_of_any_length _ = false

-- one type, with one length or the same extents
abbrev pub same_type : FortranType → FortranType → Bool
same_type fortran.Double fortran.Double = true
same_type fortran.Integer fortran.Integer = true
same_type fortran.Logical fortran.Logical = true
same_type (fortran.Char m) (fortran.Char n) = m == n
same_type fortran.CharAny fortran.CharAny = true
same_type (fortran.DoubleVec m) (fortran.DoubleVec n) = m == n
same_type (fortran.DoubleMat k m) (fortran.DoubleMat l n) = k == l && m == n
same_type (fortran.IntegerVec m) (fortran.IntegerVec n) = m == n
same_type _ _ = false
