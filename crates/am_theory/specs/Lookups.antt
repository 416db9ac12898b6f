-- What a theory has under a name or a number.
use Rattle.std.specs.Prelude.{◌++◌, ◌==◌, ℕ, Option, Some, None, List, [], ◌∷◌, map, slice_get, slice_index_or, find}
use Rattle.std.specs.List.{flat_map}
use Rattle.std.specs.Str.{bytes_eq}
use Rattle.am_term.specs.declared.id.SortId.{SortId}
use Rattle.am_term.specs.declared.id.SymId.{SymId}
use Rattle.am_term.specs.declared.symbol.Symbol.{Symbol}
use Rattle.am_term.specs.declared.signature.Signature.{Signature}
use Rattle.am_theory.specs.declared.theory.Rep.{Rep}
use Rattle.am_theory.specs.declared.theory.Routine.{Routine}
use Rattle.am_theory.specs.declared.theory.FortranFunction.{FortranFunction}
use Rattle.am_theory.specs.declared.theory.LiteralDecl.{LiteralDecl}
use Rattle.am_theory.specs.declared.theory.Theory.{Theory}

-- the name of a sort; the empty name where there is none of that number
abbrev pub sort_name : Signature → SortId → List ℕ
sort_name sig s = slice_index_or sig.sorts s.0 []

abbrev pub symbol_name_of : Option Symbol → List ℕ
symbol_name_of None = []
symbol_name_of (Some y) = y.name

abbrev pub result_of : Option Symbol → Option SortId
result_of None = None
result_of (Some y) = y.result

abbrev pub argument_sorts_of : Option Symbol → List SortId
argument_sorts_of None = []
argument_sorts_of (Some y) = y.args

-- the sorts of a symbol's arguments
abbrev pub argument_sorts : Signature → SymId → List SortId
argument_sorts sig f = argument_sorts_of (slice_get sig.symbols f.0)

-- the name of a symbol
abbrev pub symbol_name : Signature → SymId → List ℕ
symbol_name sig f = symbol_name_of (slice_get sig.symbols f.0)

-- the result sort of a symbol; a relation has none
abbrev pub result_sort : Signature → SymId → Option SortId
result_sort sig f = result_of (slice_get sig.symbols f.0)

abbrev pub name_at : Signature → Option SortId → List ℕ
name_at sig None = []
name_at sig (Some s) = sort_name sig s

abbrev pub result_name : Signature → SymId → List ℕ
result_name sig f = name_at sig (result_sort sig f)

abbrev pub known : {A : Type 0} → Option (Option A) → Option A
known None = None
known (Some o) = o

-- the representation of a sort, if it is concrete
abbrev pub rep_of : Theory → SortId → Option Rep
rep_of t s = known (slice_get t.reps s.0)

-- the copy routine of a sort, if it has one
abbrev pub copy_of : Theory → SortId → Option (List ℕ)
copy_of t s = known (slice_get t.copies s.0)

-- the routine of this name
abbrev pub routine_named : Theory → List ℕ → Option Routine
routine_named t n = find (λ (r : Routine). bytes_eq r.name n) t.routines

-- the listed FORTRAN function of this name
abbrev pub function_named : Theory → List ℕ → Option FortranFunction
function_named t n = find (λ (f : FortranFunction). bytes_eq f.name n) t.functions

-- the literal of a symbol
abbrev pub literal_declared : Theory → SymId → Option LiteralDecl
literal_declared t f = find (λ (l : LiteralDecl). l.symbol.0 == f.0) t.literals

abbrev pub listed_name : Option (List ℕ) → List (List ℕ)
listed_name None = []
listed_name (Some n) = n ∷ []

-- the names of copy routines, one for each sort that has one
abbrev pub copy_names : Theory → List (List ℕ)
copy_names t = flat_map listed_name t.copies

-- the FORTRAN names of a theory: its routines, its listed functions and its copy routines
abbrev pub fortran_names : Theory → List (List ℕ)
fortran_names t = map (λ (r : Routine). r.name) t.routines ++ map (λ (f : FortranFunction). f.name) t.functions ++ copy_names t
