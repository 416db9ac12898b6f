-- The point of an ellipsoid that is nearest to a craft: the diagram that asks for it, and the subroutine that is printed
-- for it.
use Rattle.std.specs.Prelude.{◌≡◌, ◌≤◌, ℕ, ℤ, true, Some, List, [], ◌∷◌, map, length, codes}
use Rattle.std.specs.List.{list_all}
use Rattle.std.proofs.Common.{refl}
use Rattle.std.proofs.Math.Bridge.{le_by_compare}
use Rattle.am_term.specs.declared.id.SortId.{SortId}
use Rattle.am_term.specs.declared.term.Term.{Term}
use Rattle.am_term.specs.declared.term.Term.TheVariants.{Var, In, App}
use Rattle.am_term.specs.declared.term.Atom.TheVariants.{Eq}
use Rattle.am_term.specs.declared.term.Literal.{Literal}
use Rattle.am_term.specs.Names.{is_fortran_name}
use Rattle.am_theory.specs.declared.theory.Theory.{Theory}
use Rattle.am_diagram.specs.declared.diagram.Diagram.{Diagram}
use Rattle.am_diagram.specs.Listed.{entry_names}
use Rattle.am_fortran.specs.declared.statement.FortranType.TheVariants.{Double, Integer, CharAny, DoubleVec}
use Rattle.am_fortran.specs.declared.statement.FortranType.{FortranType}
use Rattle.am_fortran.specs.declared.statement.Decl.{Decl}
use Rattle.am_fortran.specs.declared.statement.Operand.TheVariants as operand
use Rattle.am_fortran.specs.declared.statement.Statement.{Statement}
use Rattle.am_fortran.specs.declared.statement.Statement.TheVariants.{Call}
use Rattle.am_fortran.specs.declared.unit.Unit.{Unit as Subroutine}
use Rattle.am_fortran.specs.Well.{is_declaration, is_statement}
use Rattle.am_exec.specs.Run.{NumberStore, number_held, unit_run}
use Rattle.am_example.specs.ExampleSorts as sort
use Rattle.am_example.specs.ExampleSymbols as symbol
use Rattle.am_example.specs.ExampleWorld.{example_world}
use Rattle.am_example.specs.Whole.{zigzag}

-- ---- the diagram

abbrev pub nearsc_inputs : List (List ℕ × SortId)
nearsc_inputs =
    (codes "UTC", sort.utc) ∷ (codes "CRAFT", sort.body) ∷ (codes "BODY", sort.body) ∷ (codes "FRAME", sort.frame) ∷ (codes "A", sort.km) ∷ (codes "B", sort.km) ∷
    (codes "C", sort.km) ∷ []

abbrev pub equal : Term → Term → Literal
equal left right = record { positive = true; atom = Eq left right }

-- a time, a surface, the craft's place and the nearest point are variables 0 to 3, the output is variable 4
abbrev pub nearsc_required : List Literal
nearsc_required =
    let t : Term = Var 0 sort.time in
    let s : Term = Var 1 sort.surface in
    let p : Term = Var 2 sort.point in
    let n : Term = Var 3 sort.point in
    equal t (App symbol.utc-time (In 0 ∷ [])) ∷
    equal s (App symbol.ellipsoid (In 3 ∷ In 2 ∷ t ∷ In 4 ∷ In 5 ∷ In 6 ∷ [])) ∷
    equal p (App symbol.body-place (In 1 ∷ t ∷ [])) ∷
    equal n (App symbol.nearest (s ∷ p ∷ [])) ∷
    equal (Var 4 sort.vector) (App symbol.coords (In 3 ∷ In 2 ∷ t ∷ n ∷ [])) ∷ []

-- the diagram of `crates/amphion/data/nearsc.diagram`
abbrev pub nearsc : Diagram
nearsc = record {
  name = codes "NEARSC";
  inputs = nearsc_inputs;
  objects = (codes "t", sort.time) ∷ (codes "s", sort.surface) ∷ (codes "p", sort.point) ∷ (codes "n", sort.point) ∷ [];
  outputs = (codes "NPT", sort.vector) ∷ [];
  givens = [];
  required = nearsc_required;
}

-- ---- the subroutine

abbrev pub declaring : FortranType → List ℕ → Decl
declaring ty n = record { ty = ty; name = n }

abbrev pub nearsc_declarations : List Decl
nearsc_declarations =
    declaring CharAny (codes "UTC") ∷
    declaring Integer (codes "CRAFT") ∷
    declaring Integer (codes "BODY") ∷
    declaring CharAny (codes "FRAME") ∷
    declaring Double (codes "A") ∷
    declaring Double (codes "B") ∷
    declaring Double (codes "C") ∷
    declaring (DoubleVec 3) (codes "NPT") ∷
    declaring Double (codes "T00001") ∷
    declaring (DoubleVec 3) (codes "T00002") ∷
    declaring Double (codes "T00003") ∷
    declaring Double (codes "T00004") ∷ []

abbrev pub time_call : Statement
time_call = Call (codes "UTC2ET") (operand.Name (codes "UTC") ∷ operand.Name (codes "T00001") ∷ [])

abbrev pub place_call : Statement
place_call = Call (codes "SPKEZP")
    (operand.Name (codes "CRAFT") ∷ operand.Name (codes "T00001") ∷ operand.Name (codes "FRAME") ∷ operand.Text (codes "NONE") ∷ operand.Name (codes "BODY") ∷
    operand.Name (codes "T00002") ∷ operand.Name (codes "T00003") ∷ [])

abbrev pub nearest_call : Statement
nearest_call = Call (codes "NEARPT")
    (operand.Name (codes "T00002") ∷ operand.Name (codes "A") ∷ operand.Name (codes "B") ∷ operand.Name (codes "C") ∷ operand.Name (codes "NPT") ∷
    operand.Name (codes "T00004") ∷ [])

abbrev pub nearsc_dummies : List (List ℕ)
nearsc_dummies = codes "UTC" ∷ codes "CRAFT" ∷ codes "BODY" ∷ codes "FRAME" ∷ codes "A" ∷ codes "B" ∷ codes "C" ∷ codes "NPT" ∷ []

abbrev pub nearsc_statements : List Statement
nearsc_statements = time_call ∷ place_call ∷ nearest_call ∷ []

pub name_kept : is_fortran_name (codes "NEARSC") ≡ true
unfolding is_fortran_name
name_kept = refl

pub dummies_kept : list_all is_fortran_name nearsc_dummies ≡ true
unfolding is_fortran_name
dummies_kept = refl

pub declarations_kept : list_all is_declaration nearsc_declarations ≡ true
unfolding is_fortran_name
declarations_kept = refl

pub statements_kept : list_all is_statement nearsc_statements ≡ true
unfolding is_fortran_name is_statement
statements_kept = refl

pub some_kept : 1 ≤ length nearsc_dummies
unfolding native.Mathlib.Bridge.IsLe
some_kept = le_by_compare 1 8 tt

pub few_kept : length nearsc_dummies ≤ 18
unfolding native.Mathlib.Bridge.IsLe
few_kept = le_by_compare 8 18 tt

-- the subroutine that is printed for the diagram
abbrev pub nearsc_unit : Subroutine
nearsc_unit = record {
  name = codes "NEARSC";
  dummies = nearsc_dummies;
  declarations = nearsc_declarations;
  statements = nearsc_statements;
  named = name_kept;
  dummies_named = dummies_kept;
  some_dummy = some_kept;
  few_dummies = few_kept;
  declared = declarations_kept;
  stated = statements_kept;
}

-- its lines
abbrev pub nearsc_lines : List (List ℕ)
nearsc_lines =
    codes "      SUBROUTINE NEARSC(UTC, CRAFT, BODY, FRAME, A, B, C, NPT)" ∷
    codes "      CHARACTER*(*) UTC" ∷
    codes "      INTEGER CRAFT" ∷
    codes "      INTEGER BODY" ∷
    codes "      CHARACTER*(*) FRAME" ∷
    codes "      DOUBLE PRECISION A" ∷
    codes "      DOUBLE PRECISION B" ∷
    codes "      DOUBLE PRECISION C" ∷
    codes "      DOUBLE PRECISION NPT(3)" ∷
    codes "      DOUBLE PRECISION T00001" ∷
    codes "      DOUBLE PRECISION T00002(3)" ∷
    codes "      DOUBLE PRECISION T00003" ∷
    codes "      DOUBLE PRECISION T00004" ∷
    codes "      CALL UTC2ET(UTC, T00001)" ∷
    codes "      CALL SPKEZP(CRAFT, T00001, FRAME, 'NONE', BODY, T00002, T00003)" ∷
    codes "      CALL NEARPT(T00002, A, B, C, NPT, T00004)" ∷
    codes "      END" ∷ []

-- in the example world a subroutine for the diagram has a run on these whole numbers, and at its end the outputs hold
-- those
pub record RunGives (t : Theory) (d : Diagram) (u : Subroutine) (ins outs : List ℤ) : Type 0 where
  pub end : NumberStore
  pub runs : unit_run example_world t d u (map zigzag ins) ≡ Some end
  pub hold : map (number_held end) (entry_names d.outputs) ≡ map Some (map zigzag outs)
