-- What holds of all that was declared so far.
use Rattle.std.proofs.Common.{◌≡◌, ◌⊎◌, ◌+◌, ◌<◌, ◌≤◌, ◌++◌, ℕ, true, false, Option, Some, None, List, [], map, length, slice_get}
use Rattle.std.specs.Prelude.{is_some, IsTrue}
use Rattle.std.specs.List.{AllByRecursion, AllZip, Contains, flat_map}
use Rattle.am_term.specs.declared.id.SortId.{SortId}
use Rattle.am_term.specs.declared.id.SymId.{SymId}
use Rattle.am_term.specs.declared.kind.SymKind.{SymKind}
use Rattle.am_term.specs.declared.kind.SymKind.TheVariants as kind
use Rattle.am_term.specs.declared.term.Formula.{Formula}
use Rattle.am_term.specs.Names.{is_name}
use Rattle.am_term.specs.NameLists.{is_among, are_distinct}
use Rattle.am_term.specs.Sorts.{akin_in}
use Rattle.am_clause.specs.ClauseForm.{cnf}
use Rattle.am_syntax.specs.declared.scope.Bound.{Bound}
use Rattle.am_syntax.specs.declared.scope.Standing.TheVariants.{Variable, Input}
use Rattle.am_syntax.specs.declared.written.WrittenFormula.{WrittenFormula}
use Rattle.am_syntax.specs.Scopes.{Profile, Scope, standing_of, symbol_at, result_of}
use Rattle.am_syntax.specs.Flaws.{has_quantifier}
use Rattle.am_syntax.specs.Meaning.{formula_meaning}
use Rattle.am_syntax.specs.Laws.{IsFlawlessFormula}
use Rattle.am_theory.specs.declared.theory.Rep.{Rep}
use Rattle.am_theory.specs.declared.theory.Routine.{Routine}
use Rattle.am_theory.specs.declared.theory.FortranFunction.{FortranFunction}
use Rattle.am_theory.specs.declared.theory.LiteralDecl.{LiteralDecl}
use Rattle.am_theory.specs.declared.theory.Axiom.{Axiom}
use Rattle.am_theory.specs.Contents.{Contents}
use Rattle.am_theory.specs.Lookups.{known, listed_name}
use Rattle.am_theory.specs.Faults.{is_free_name, is_returnable, suits, same_value, axiom_names}
use Rattle.am_theory.specs.Facts.{is_represented, is_value, are_distinct_numbers, IsSmallClause}
use Rattle.am_theory.specs.Limits.{sort_limit, symbol_limit, axiom_limit, variable_limit, clause_limit, argument_limit, output_limit, call_limit}

-- ---- sorts
abbrev pub names_of_symbols : List Profile → List (List ℕ)
names_of_symbols = map (λ (y : Profile). y.name)

abbrev pub listed : List (Option (List ℕ)) → List (List ℕ)
listed = flat_map listed_name

abbrev pub sort_rep : List (Option Rep) → SortId → Option Rep
sort_rep reps s = known (slice_get reps s.0)

abbrev pub sort_copy : List (Option (List ℕ)) → SortId → Option (List ℕ)
sort_copy copies s = known (slice_get copies s.0)

abbrev pub IsSortOf : ℕ → SortId → Type 0
IsSortOf count s = s.0 < count

abbrev pub IsConcreteIn : List (Option Rep) → SortId → Type 0
IsConcreteIn reps s = IsTrue (is_some (sort_rep reps s))

abbrev pub Suits : Option Rep → Option (List ℕ) → Type 0
Suits r copy = is_represented r copy ≡ true

-- a version of the format; in the first no sort has a parent
abbrev pub HasVersionOf : ℕ → List (Option SortId) → Type 0
HasVersionOf v parents = ((v ≡ 1) × AllByRecursion (λ (p : Option SortId). p ≡ None) parents) ⊎ (v ≡ 2)

-- the sort stands behind the other, and has its representation and its copy routine
pub record IsUnder (reps : List (Option Rep)) (copies : List (Option (List ℕ))) (s p : SortId) : Type 0 where
  pub lower : p.0 < s.0
  pub rep : sort_rep reps s ≡ sort_rep reps p
  pub copy : sort_copy copies s ≡ sort_copy copies p

-- each sort with a parent is under it
abbrev pub AreUnder : List (Option SortId) → List (Option Rep) → List (Option (List ℕ)) → Type 0
AreUnder parents reps copies = (s p : SortId) → slice_get parents s.0 ≡ Some (Some p) → IsUnder reps copies s p

pub record SortsSound (version : ℕ) (sorts : List (List ℕ)) (parents : List (Option SortId)) (reps : List (Option Rep)) (copies : List (Option (List ℕ))) : Type 0 where
  pub versioned : HasVersionOf version parents
  pub parents_counted : length parents ≡ length sorts
  pub under : AreUnder parents reps copies
  pub represented : AllZip Suits reps copies
  pub reps_counted : length reps ≡ length sorts
  pub copies_counted : length copies ≡ length sorts
  pub named : AllByRecursion (λ n. IsTrue (is_name n)) sorts
  pub distinct : are_distinct sorts ≡ true
  pub few : length sorts ≤ sort_limit
  pub copies_named : AllByRecursion (λ n. IsTrue (is_free_name n)) (listed copies)

-- ---- names of called things
abbrev pub called : List Routine → List FortranFunction → List (List ℕ)
called routines functions = map (λ (r : Routine). r.name) routines ++ map (λ (f : FortranFunction). f.name) functions

pub record CalledSound (routines : List Routine) (functions : List FortranFunction) (copies : List (Option (List ℕ))) : Type 0 where
  pub distinct : are_distinct (called routines functions) ≡ true
  pub apart : AllByRecursion (λ n. is_among n (listed copies) ≡ false) (called routines functions)

-- ---- symbols
abbrev pub HasResultOf : ℕ → Option SortId → Type 0
HasResultOf count None = Unit {0}
HasResultOf count (Some s) = IsSortOf count s

pub record ProfileSound (count : ℕ) (y : Profile) : Type 0 where
  pub named : IsTrue (is_name y.name)
  pub args : AllByRecursion (IsSortOf count) y.args
  pub result : HasResultOf count y.result
  pub few : length y.args ≤ argument_limit

pub record SymbolsSound (count : ℕ) (symbols : List Profile) : Type 0 where
  pub each : AllByRecursion (ProfileSound count) symbols
  pub distinct : are_distinct (names_of_symbols symbols) ≡ true
  pub few : length symbols ≤ symbol_limit

-- the symbol of this number is of this kind, and has these arguments and a concrete result
pub record StandsIn (reps : List (Option Rep)) (symbols : List Profile) (f : SymId) (k : SymKind) (args : List SortId) : Type 0 where
  pub symbol : Profile
  pub there : slice_get symbols f.0 ≡ Some symbol
  pub of_kind : symbol.kind ≡ k
  pub with_args : symbol.args ≡ args
  pub sort : SortId
  pub result : symbol.result ≡ Some sort
  pub concrete : IsConcreteIn reps sort

-- ---- routines, listed functions and literals
pub record RoutineSound (reps : List (Option Rep)) (symbols : List Profile) (r : Routine) : Type 0 where
  pub named : IsTrue (is_free_name r.name)
  pub inputs : AllByRecursion (IsConcreteIn reps) r.inputs
  pub outputs : AllByRecursion (λ f. StandsIn reps symbols f kind.Output r.inputs) r.outputs
  pub some_output : 1 ≤ length r.outputs
  pub few_inputs : length r.inputs ≤ argument_limit
  pub few_outputs : length r.outputs ≤ output_limit
  pub few : length r.inputs + length r.outputs ≤ call_limit

pub record FunctionSound (reps : List (Option Rep)) (symbols : List Profile) (f : FortranFunction) : Type 0 where
  pub named : IsTrue (is_free_name f.name)
  pub args : List SortId
  pub stands : StandsIn reps symbols f.symbol kind.Value args
  pub concrete : AllByRecursion (IsConcreteIn reps) args
  pub returnable : IsTrue (is_returnable (sort_rep reps stands.sort))

pub record LiteralSound (reps : List (Option Rep)) (symbols : List Profile) (l : LiteralDecl) : Type 0 where
  pub stands : StandsIn reps symbols l.symbol kind.Literal []
  pub suited : IsTrue (suits l.value (sort_rep reps stands.sort))
  pub valued : IsTrue (is_value l.value)

-- the sort of a symbol, by its number
abbrev pub sort_at : List Profile → SymId → Option SortId
sort_at symbols f = result_of (symbol_at symbols (Some f.0))

-- two literals of one value and akin sorts are one
abbrev pub OneEach : List (Option SortId) → List Profile → List LiteralDecl → Type 0
OneEach parents symbols literals = (i j : ℕ) (l m : LiteralDecl) (a b : SortId) → slice_get literals i ≡ Some l → slice_get literals j ≡ Some m → sort_at symbols l.symbol ≡ Some a → sort_at symbols m.symbol ≡ Some b → akin_in parents a b ≡ true → same_value l.value m.value ≡ true → i ≡ j

-- a symbol of this kind is listed where its kind is declared
abbrev pub OutputsListed : List Profile → List Routine → Type 0
OutputsListed symbols routines = (k : ℕ) (y : Profile) → slice_get symbols k ≡ Some y → y.kind ≡ kind.Output → (r : Routine) × Contains routines r × Contains r.outputs (record { 0 = k })

abbrev pub ValuesListed : List Profile → List FortranFunction → Type 0
ValuesListed symbols functions = (k : ℕ) (y : Profile) → slice_get symbols k ≡ Some y → y.kind ≡ kind.Value → (f : FortranFunction) × Contains functions f × (f.symbol.0 ≡ k)

abbrev pub LiteralsListed : List Profile → List LiteralDecl → Type 0
LiteralsListed symbols literals = (k : ℕ) (y : Profile) → slice_get symbols k ≡ Some y → y.kind ≡ kind.Literal → (l : LiteralDecl) × Contains literals l × (l.symbol.0 ≡ k)

abbrev pub numbers : List Routine → List FortranFunction → List LiteralDecl → List SymId
numbers routines functions literals = flat_map (λ (r : Routine). r.outputs) routines ++ map (λ (f : FortranFunction). f.symbol) functions ++ map (λ (l : LiteralDecl). l.symbol) literals

-- ---- axioms
abbrev pub scope_in : List (Option SortId) → List Profile → List Bound → Scope
scope_in parents symbols bound = record { names = names_of_symbols symbols; symbols = symbols; parents = parents; bound = bound }

-- a formula is what a written one without a flaw means
pub record FormulaSound (count : ℕ) (parents : List (Option SortId)) (symbols : List Profile) (f : Formula) : Type 0 where
  pub written : WrittenFormula
  pub bound : List Bound
  pub meant : f ≡ formula_meaning (scope_in parents symbols bound) written
  pub flawless : IsFlawlessFormula (scope_in parents symbols bound) written
  pub plain : has_quantifier written ≡ false
  pub variables : (w : List ℕ) (n : ℕ) (s : SortId) → standing_of w bound ≡ Some (Variable n s) → IsSortOf count s
  pub inputs : (w : List ℕ) (k : ℕ) (s : SortId) → standing_of w bound ≡ Some (Input k s) → ⊥

pub record AxiomSound (count : ℕ) (parents : List (Option SortId)) (symbols : List Profile) (a : Axiom) : Type 0 where
  pub sorts : AllByRecursion (λ (v : List ℕ × SortId). IsSortOf count v.1) a.vars
  pub named : AllByRecursion (λ (v : List ℕ × SortId). IsTrue (is_name v.0)) a.vars
  pub distinct : are_distinct (axiom_names a) ≡ true
  pub apart : AllByRecursion (λ (v : List ℕ × SortId). is_among v.0 (names_of_symbols symbols) ≡ false) a.vars
  pub few_variables : length a.vars ≤ variable_limit
  pub formula : FormulaSound count parents symbols a.formula
  pub few_clauses : length (cnf a.formula) ≤ clause_limit
  pub small : AllByRecursion IsSmallClause (cnf a.formula)

-- ---- all
pub record Sound (c : Contents) : Type 0 where
  pub of_sorts : SortsSound c.version c.sorts c.parents c.reps c.copies
  pub of_called : CalledSound c.routines c.functions c.copies
  pub of_symbols : SymbolsSound (length c.sorts) c.symbols
  pub of_routines : AllByRecursion (RoutineSound c.reps c.symbols) c.routines
  pub of_functions : AllByRecursion (FunctionSound c.reps c.symbols) c.functions
  pub of_literals : AllByRecursion (LiteralSound c.reps c.symbols) c.literals
  pub one_each : OneEach c.parents c.symbols c.literals
  pub outputs : OutputsListed c.symbols c.routines
  pub values : ValuesListed c.symbols c.functions
  pub constants : LiteralsListed c.symbols c.literals
  pub numbered : are_distinct_numbers (numbers c.routines c.functions c.literals) ≡ true
  pub of_axioms : AllByRecursion (AxiomSound (length c.sorts) c.parents c.symbols) c.axioms
  pub few_axioms : length c.axioms ≤ axiom_limit
