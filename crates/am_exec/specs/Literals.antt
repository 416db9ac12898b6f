-- Which literal symbol an operand stands for.
use Rattle.std.specs.Prelude.{◌&&◌, Bool, false, Option, Some, None, find, option_map}
use Rattle.std.specs.Ordering.{int_eq}
use Rattle.std.specs.Str.{bytes_eq}
use Rattle.am_term.specs.declared.id.SortId.{SortId}
use Rattle.am_term.specs.declared.id.SymId.{SymId}
use Rattle.am_term.specs.Sorts.{fits}
use Rattle.am_theory.specs.declared.theory.LitValue.{LitValue}
use Rattle.am_theory.specs.declared.theory.LitValue.TheVariants as value
use Rattle.am_theory.specs.declared.theory.LiteralDecl.{LiteralDecl}
use Rattle.am_theory.specs.declared.theory.Theory.{Theory}
use Rattle.am_theory.specs.Lookups.{result_sort}
use Rattle.am_fortran.specs.declared.statement.Operand.{Operand}
use Rattle.am_fortran.specs.declared.statement.Operand.TheVariants as operand

-- an operand writes this value
abbrev pub writes : Operand → LitValue → Bool
writes (operand.Name n) v = false
writes (operand.Int z) (value.Int y) = int_eq z y
writes (operand.Int z) (value.Text t) = false
writes (operand.Text s) (value.Int y) = false
writes (operand.Text s) (value.Text t) = bytes_eq s t

abbrev pub sort_fits : Theory → Option SortId → SortId → Bool
sort_fits t None place = false
sort_fits t (Some s) place = fits t.sig s place

-- the literal symbol that has the value an operand writes, and whose sort fits that of the place
abbrev pub literal_written : Theory → SortId → Operand → Option SymId
literal_written t place o = option_map (λ (l : LiteralDecl). l.symbol) (find (λ (l : LiteralDecl). writes o l.value && sort_fits t (result_sort t.sig l.symbol) place) t.literals)
