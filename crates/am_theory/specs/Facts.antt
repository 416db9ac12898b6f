-- What holds of each theory that was read.
use Rattle.std.specs.Prelude.{◌≡◌, ◌⊎◌, ◌+◌, ◌<◌, ◌≤◌, ◌++◌, ◌==◌, ◌&&◌, ℕ, Bool, true, false, not, Option, Some, None, List, [], ◌∷◌, map, length, slice_get, is_some, nat_le, IsTrue}
use Rattle.std.specs.List.{AllByRecursion, Contains, flat_map, list_all, list_any}
use Rattle.am_term.specs.declared.id.SortId.{SortId}
use Rattle.am_term.specs.declared.id.SymId.{SymId}
use Rattle.am_term.specs.declared.kind.SymKind.{SymKind}
use Rattle.am_term.specs.declared.kind.SymKind.TheVariants as kind
use Rattle.am_term.specs.declared.symbol.Symbol.{Symbol}
use Rattle.am_term.specs.Names.{is_name}
use Rattle.am_term.specs.NameLists.{is_among, are_distinct}
use Rattle.am_term.specs.Sorts.{akin}
use Rattle.am_text.specs.Bytes.{is_text_byte}
use Rattle.am_text.specs.Spelling.{fits_word}
use Rattle.am_clause.specs.declared.clause.Clause.{Clause}
use Rattle.am_clause.specs.ClauseForm.{cnf}
use Rattle.am_term.specs.SortedFormula.{is_sorted_formula}
use Rattle.am_theory.specs.declared.theory.Rep.{Rep}
use Rattle.am_theory.specs.declared.theory.Rep.TheVariants as rep
use Rattle.am_theory.specs.declared.theory.LitValue.{LitValue}
use Rattle.am_theory.specs.declared.theory.LitValue.TheVariants as value
use Rattle.am_theory.specs.declared.theory.Routine.{Routine}
use Rattle.am_theory.specs.declared.theory.FortranFunction.{FortranFunction}
use Rattle.am_theory.specs.declared.theory.LiteralDecl.{LiteralDecl}
use Rattle.am_theory.specs.declared.theory.Axiom.{Axiom}
use Rattle.am_theory.specs.declared.theory.Theory.{Theory}
use Rattle.am_theory.specs.Lookups.{rep_of, copy_of, copy_names}
use Rattle.am_theory.specs.Faults.{is_free_name, is_returnable, suits, same_value}
use Rattle.am_theory.specs.Limits.{sort_limit, symbol_limit, axiom_limit, variable_limit, clause_limit, literal_limit, argument_limit, output_limit, call_limit, length_limit, extent_limit}

-- a sort of the theory
abbrev pub IsSort : Theory → SortId → Type 0
IsSort t s = s.0 < length t.sig.sorts

-- a sort with a representation
abbrev pub IsConcrete : Theory → SortId → Type 0
IsConcrete t s = IsTrue (is_some (rep_of t s))

-- more than one number
abbrev pub is_array : Rep → Bool
is_array rep.Double = false
is_array rep.Integer = false
is_array rep.Logical = false
is_array (rep.Char n) = false
is_array (rep.DoubleVec m) = true
is_array (rep.DoubleMat m n) = true
is_array (rep.IntegerVec m) = true

abbrev pub is_within : ℕ → ℕ → Bool
is_within most n = nat_le 1 n && nat_le n most

-- the numbers of a representation are in range
abbrev pub is_in_range : Rep → Bool
is_in_range rep.Double = true
is_in_range rep.Integer = true
is_in_range rep.Logical = true
is_in_range (rep.Char n) = is_within length_limit n
is_in_range (rep.DoubleVec m) = is_within extent_limit m
is_in_range (rep.DoubleMat m n) = is_within extent_limit m && is_within extent_limit n
is_in_range (rep.IntegerVec m) = is_within extent_limit m

abbrev pub copies_when_array : Bool → Option (List ℕ) → Bool
copies_when_array true copy = is_some copy
copies_when_array false copy = not (is_some copy)

-- an array has a copy routine, and nothing else has one
abbrev pub is_represented : Option Rep → Option (List ℕ) → Bool
is_represented None copy = not (is_some copy)
is_represented (Some r) copy = is_in_range r && copies_when_array (is_array r) copy

abbrev pub HasResult : Theory → Option SortId → Type 0
HasResult t None = Unit {0}
HasResult t (Some s) = IsSort t s

-- a symbol's sorts are sorts of the theory, and it has at most 12 arguments
pub record IsSymbol (t : Theory) (y : Symbol) : Type 0 where
  pub named : IsTrue (is_name y.name)
  pub args : AllByRecursion (IsSort t) y.args
  pub result : HasResult t y.result
  pub few : length y.args ≤ argument_limit

-- the symbol of this number is of this kind, and has these arguments and a result
pub record Stands (t : Theory) (f : SymId) (k : SymKind) (args : List SortId) : Type 0 where
  pub symbol : Symbol
  pub there : slice_get t.sig.symbols f.0 ≡ Some symbol
  pub of_kind : symbol.kind ≡ k
  pub with_args : symbol.args ≡ args
  pub sort : SortId
  pub result : symbol.result ≡ Some sort
  pub concrete : IsConcrete t sort

-- A routine's outputs are symbols with the routine's inputs as arguments; all its sorts are concrete.
pub record IsRoutine (t : Theory) (r : Routine) : Type 0 where
  pub named : IsTrue (is_free_name r.name)
  pub inputs : AllByRecursion (IsConcrete t) r.inputs
  pub outputs : AllByRecursion (λ f. Stands t f kind.Output r.inputs) r.outputs
  pub some_output : 1 ≤ length r.outputs
  pub few_inputs : length r.inputs ≤ argument_limit
  pub few_outputs : length r.outputs ≤ output_limit
  pub few : length r.inputs + length r.outputs ≤ call_limit

-- A listed function's symbol has concrete arguments, and a result that FORTRAN functions may have.
pub record IsFunction (t : Theory) (f : FortranFunction) : Type 0 where
  pub named : IsTrue (is_free_name f.name)
  pub args : List SortId
  pub stands : Stands t f.symbol kind.Value args
  pub concrete : AllByRecursion (IsConcrete t) args
  pub returnable : IsTrue (is_returnable (rep_of t stands.sort))

abbrev pub is_value : LitValue → Bool
is_value (value.Int n) = fits_word n
is_value (value.Text x) = list_all is_text_byte x

-- A literal's symbol is a constant, and its value suits the representation of its sort.
pub record IsLiteral (t : Theory) (l : LiteralDecl) : Type 0 where
  pub stands : Stands t l.symbol kind.Literal []
  pub suited : IsTrue (suits l.value (rep_of t stands.sort))
  pub valued : IsTrue (is_value l.value)

abbrev pub IsSmallClause : Clause → Type 0
IsSmallClause c = length c.literals ≤ literal_limit

-- An axiom's variables have sorts of the theory, and differ from each other and from the symbols; its formula
-- is well sorted and has few clauses.
pub record IsAxiom (t : Theory) (a : Axiom) : Type 0 where
  pub sorts : AllByRecursion (λ (v : List ℕ × SortId). IsSort t v.1) a.vars
  pub named : AllByRecursion (λ (v : List ℕ × SortId). IsTrue (is_name v.0)) a.vars
  pub distinct : IsTrue (are_distinct (map (λ (v : List ℕ × SortId). v.0) a.vars))
  pub apart : AllByRecursion (λ (v : List ℕ × SortId). is_among v.0 (map (λ (y : Symbol). y.name) t.sig.symbols) ≡ false) a.vars
  pub few_variables : length a.vars ≤ variable_limit
  pub sorted : IsTrue (is_sorted_formula t.sig [] a.formula)
  pub few_clauses : length (cnf a.formula) ≤ clause_limit
  pub small : AllByRecursion IsSmallClause (cnf a.formula)

-- two literals with one value and akin sorts are one
abbrev pub OneLiteral : Theory → Type 0
OneLiteral t = (i j : ℕ) (l m : LiteralDecl) → slice_get t.literals i ≡ Some l → slice_get t.literals j ≡ Some m
    → (first : Stands t l.symbol kind.Literal []) → (second : Stands t m.symbol kind.Literal [])
    → IsTrue (same_value l.value m.value) → IsTrue (akin t.sig first.sort second.sort) → i ≡ j

-- a symbol of this kind is listed where its kind is declared
abbrev pub IsOutputOfOne : Theory → Type 0
IsOutputOfOne t = (k : ℕ) (y : Symbol) → slice_get t.sig.symbols k ≡ Some y → y.kind ≡ kind.Output → (r : Routine) × Contains t.routines r × Contains r.outputs (record { 0 = k })

abbrev pub IsValueOfOne : Theory → Type 0
IsValueOfOne t = (k : ℕ) (y : Symbol) → slice_get t.sig.symbols k ≡ Some y → y.kind ≡ kind.Value → (f : FortranFunction) × Contains t.functions f × (f.symbol.0 ≡ k)

abbrev pub IsLiteralOfOne : Theory → Type 0
IsLiteralOfOne t = (k : ℕ) (y : Symbol) → slice_get t.sig.symbols k ≡ Some y → y.kind ≡ kind.Literal → (l : LiteralDecl) × Contains t.literals l × (l.symbol.0 ≡ k)

-- no number comes twice
abbrev pub symbol_numbers : Theory → List SymId
symbol_numbers t = flat_map (λ (r : Routine). r.outputs) t.routines ++ map (λ (f : FortranFunction). f.symbol) t.functions ++ map (λ (l : LiteralDecl). l.symbol) t.literals

abbrev pub is_number_among : SymId → List SymId → Bool
is_number_among f fs = list_any (λ (g : SymId). f.0 == g.0) fs

abbrev pub are_distinct_numbers : List SymId → Bool
are_distinct_numbers [] = true
are_distinct_numbers (f ∷ fs) = not (is_number_among f fs) && are_distinct_numbers fs

-- names of called things: routines and listed functions
abbrev pub called_names : Theory → List (List ℕ)
called_names t = map (λ (r : Routine). r.name) t.routines ++ map (λ (f : FortranFunction). f.name) t.functions

-- a version of the format; in the first no sort has a parent
abbrev pub HasVersion : Theory → Type 0
HasVersion t = ((t.version ≡ 1) × AllByRecursion (λ (p : Option SortId). p ≡ None) t.sig.parents) ⊎ (t.version ≡ 2)

pub record WellFormed (t : Theory) : Type 0 where
  pub version : HasVersion t
  -- each sort has a place in both lists, its name is a name, and no two sorts have one name
  pub reps : length t.reps ≡ length t.sig.sorts
  pub copies : length t.copies ≡ length t.sig.sorts
  pub sorts_named : AllByRecursion (λ n. IsTrue (is_name n)) t.sig.sorts
  pub sorts_distinct : IsTrue (are_distinct t.sig.sorts)
  pub few_sorts : length t.sig.sorts ≤ sort_limit
  -- representations are in range; arrays and nothing else have copy routines, with FORTRAN names
  pub represented : (s : SortId) → IsTrue (is_represented (rep_of t s) (copy_of t s))
  pub copies_named : AllByRecursion (λ n. IsTrue (is_free_name n)) (copy_names t)
  -- akin sorts have one representation and one copy routine
  pub alike : (s r : SortId) → IsTrue (akin t.sig s r) → (rep_of t s ≡ rep_of t r) × (copy_of t s ≡ copy_of t r)
  -- symbols
  pub symbols : AllByRecursion (IsSymbol t) t.sig.symbols
  pub symbols_distinct : IsTrue (are_distinct (map (λ (y : Symbol). y.name) t.sig.symbols))
  pub few_symbols : length t.sig.symbols ≤ symbol_limit
  -- routines, listed functions and literals
  pub routines : AllByRecursion (IsRoutine t) t.routines
  pub functions : AllByRecursion (IsFunction t) t.functions
  pub literals : AllByRecursion (IsLiteral t) t.literals
  pub one_literal : OneLiteral t
  pub outputs : IsOutputOfOne t
  pub values : IsValueOfOne t
  pub constants : IsLiteralOfOne t
  pub numbers_distinct : IsTrue (are_distinct_numbers (symbol_numbers t))
  -- no routine or listed function has the name of another, or of a copy routine
  pub called_distinct : IsTrue (are_distinct (called_names t))
  pub called_apart : AllByRecursion (λ n. is_among n (copy_names t) ≡ false) (called_names t)
  -- axioms
  pub axioms : AllByRecursion (IsAxiom t) t.axioms
  pub few_axioms : length t.axioms ≤ axiom_limit
