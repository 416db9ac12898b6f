-- The run of the subroutine for the nearest point in the example world.
use Rattle.std.proofs.Common.{◌≡◌, ◌∙◌, ◌&&◌, ℕ, true, refl, ap, arith, Some, List, [], ◌∷◌, map, codes, find, option_map, slice_get}
use Rattle.std.proofs.lemmas.Fmt.{decimal_digit}
use Rattle.std.specs.Str.{bytes_eq}
use Rattle.am_term.specs.declared.kind.SymKind.TheVariants as kind
use Rattle.am_term.specs.declared.symbol.Symbol.{Symbol}
use Rattle.am_term.specs.declared.signature.Signature.{Signature}
use Rattle.am_term.specs.Sorts.{fits, fits_in}
use Rattle.am_syntax.specs.Scopes.{Profile, profile}
use Rattle.am_theory.specs.declared.theory.Routine.{Routine}
use Rattle.am_theory.specs.declared.theory.LiteralDecl.{LiteralDecl}
use Rattle.am_theory.specs.declared.theory.Theory.{Theory}
use Rattle.am_theory.specs.Contents.{Contents, contents}
use Rattle.am_theory.specs.Lookups.{routine_named, result_sort, result_of}
use Rattle.am_fortran.specs.declared.statement.Operand.TheVariants as operand
use Rattle.am_fortran.specs.Text.{unit_text, head_text, with_list, with_commas, line, statement_text, declaration_text}
use Rattle.am_exec.specs.Literals.{writes, sort_fits, literal_written}
use Rattle.am_exec.specs.Run.{NumberStore, executed, executed_all}
use Rattle.am_example.specs.ExampleSorts as sort
use Rattle.am_example.specs.ExampleSymbols as symbol
use Rattle.am_example.specs.ExampleTheory.{te, te_routines, te_symbols}
use Rattle.am_example.specs.ExampleWorld.{example_world}
use Rattle.am_example.specs.Laws.{HasLines, GivesEight}
use Rattle.am_example.specs.NearestPoint.{nearsc, time_call, place_call, nearest_call}
use Rattle.am_example.specs.Whole.{zigzag, unzigzag}

abbrev at_start : NumberStore
at_start = (codes "UTC", 10) ∷ (codes "CRAFT", 14) ∷ (codes "BODY", 4) ∷ (codes "FRAME", 0) ∷ (codes "A", 6) ∷ (codes "B", 0) ∷ (codes "C", 0) ∷ []

abbrev at_time : NumberStore
at_time = (codes "T00001", 12) ∷ at_start

abbrev at_place : NumberStore
at_place = (codes "T00002", 10) ∷ (codes "T00003", 0) ∷ at_time

abbrev at_end : NumberStore
at_end = (codes "NPT", 16) ∷ (codes "T00004", 0) ∷ at_place

fits_itself : (sig : Signature) → fits sig sort.abcorr sort.abcorr ≡ true
unfolding fits fits_in
fits_itself sig = refl

module _ (t : Theory) (is : contents t ≡ te) where
  routine_is : (n : List ℕ) → routine_named t n ≡ find (λ (r : Routine). bytes_eq r.name n) te_routines
  routine_is n = ap (λ (c : Contents). find (λ (r : Routine). bytes_eq r.name n) c.routines) is

  result_is : result_sort t.sig symbol.none ≡ Some sort.abcorr
  result_is = by_first t.sig.symbols (ap (λ (c : Contents). c.symbols) is)
    where
      by_first : (ys : List Symbol) → map profile ys ≡ te_symbols → result_of (slice_get ys 0) ≡ Some sort.abcorr
      by_first [] e = absurd cc
      by_first (y ∷ ys) e = ap (λ (p : Profile). p.result) first
        where
          first : profile y ≡ record { name = codes "none"; args = []; result = Some sort.abcorr; kind = kind.Literal }
          first = cc

  literal_is : literal_written t sort.abcorr (operand.Text (codes "NONE")) ≡ Some symbol.none
  literal_is = ap (λ (c : Contents). option_map (λ (l : LiteralDecl). l.symbol) (find (λ (l : LiteralDecl). writes (operand.Text (codes "NONE")) l.value && sort_fits t (result_sort t.sig l.symbol) sort.abcorr) c.literals)) is
      ∙ rw (result_is, fits_itself t.sig) refl

  time_called : executed example_world t nearsc time_call at_start ≡ Some at_time
  unfolding zigzag unzigzag
  time_called = rw (routine_is (codes "UTC2ET")) refl

  place_called : executed example_world t nearsc place_call at_time ≡ Some at_place
  unfolding zigzag unzigzag
  place_called = rw (routine_is (codes "SPKEZP"), literal_is) refl

  nearest_called : executed example_world t nearsc nearest_call at_place ≡ Some at_end
  unfolding zigzag unzigzag
  nearest_called = rw (routine_is (codes "NEARPT")) refl

  all_called : executed_all example_world t nearsc (time_call ∷ place_call ∷ nearest_call ∷ []) at_start ≡ Some at_end
  all_called = rw (time_called, place_called, nearest_called) refl

pub gives_eight : GivesEight
unfolding zigzag
gives_eight t is = record { end = at_end; runs = all_called t is; hold = refl }

pub has_lines : HasLines
unfolding unit_text head_text with_list with_commas line statement_text declaration_text
has_lines = rw (decimal_digit 3 (omega arith)) refl
