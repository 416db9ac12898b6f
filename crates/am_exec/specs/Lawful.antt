-- Which units the theory and the diagram allow: the unit rules.
use Rattle.std.specs.Prelude.{◌≡◌, ◌+◌, ◌++◌, ◌⊎◌, ℕ, true, false, Option, Some, None, List, [], ◌∷◌, map, length, take, drop, IsTrue}
use Rattle.std.specs.List.{AllByRecursion, Contains, flat_map}
use Rattle.am_term.specs.declared.id.SortId.{SortId}
use Rattle.am_term.specs.declared.id.SymId.{SymId}
use Rattle.am_term.specs.NameLists.{is_among, are_distinct}
use Rattle.am_theory.specs.declared.theory.Rep.{Rep}
use Rattle.am_theory.specs.declared.theory.Routine.{Routine}
use Rattle.am_theory.specs.declared.theory.FortranFunction.{FortranFunction}
use Rattle.am_theory.specs.declared.theory.Theory.{Theory}
use Rattle.am_theory.specs.Lookups.{rep_of, copy_of, result_sort, argument_sorts, routine_named, function_named, fortran_names}
use Rattle.am_diagram.specs.declared.diagram.Diagram.{Diagram}
use Rattle.am_diagram.specs.Listed.{entry_names}
use Rattle.am_fortran.specs.declared.statement.FortranType.{FortranType}
use Rattle.am_fortran.specs.declared.statement.FortranType.TheVariants as fortran
use Rattle.am_fortran.specs.declared.statement.Decl.{Decl}
use Rattle.am_fortran.specs.declared.statement.Operand.{Operand}
use Rattle.am_fortran.specs.declared.statement.Operand.TheVariants as operand
use Rattle.am_fortran.specs.declared.statement.Statement.{Statement}
use Rattle.am_fortran.specs.declared.statement.Statement.TheVariants.{Call, Assign, Apply}
use Rattle.am_fortran.specs.declared.unit.Unit.{Unit as Subroutine}
use Rattle.am_exec.specs.Literals.{literal_written}
use Rattle.am_exec.specs.Run.{name_in, output_sort}
use Rattle.am_exec.specs.Types.{dummy_type, local_type, is_scalar, type_by, type_of_name}

-- the inputs and then the outputs, with their sorts
abbrev pub dummies_of : Diagram → List (List ℕ × SortId)
dummies_of d = d.inputs ++ d.outputs

-- a declaration as a name and its type
abbrev pub typed_name : Decl → List ℕ × Option FortranType
typed_name e = (e.name, Some e.ty)

-- a dummy with the type that its sort gives
abbrev pub typed_dummy : Theory → List ℕ × SortId → List ℕ × Option FortranType
typed_dummy t e = (e.0, type_by dummy_type (rep_of t e.1))

-- the name is declared with the type that the sort gives
pub record HasTypeOf (t : Theory) (u : Subroutine) (n : List ℕ) (s : SortId) : Type 0 where
  pub decl : Decl
  pub there : Contains u.declarations decl
  pub named : decl.name ≡ n
  pub typed : Some decl.ty ≡ type_of_name t u.dummies n s

-- the declarations behind those of the dummies
abbrev pub further : Subroutine → List Decl
further u = drop (length u.dummies) u.declarations

-- a listed function, declared with its result's type
pub record IsDeclaredFunction (t : Theory) (e : Decl) : Type 0 where
  pub function : FortranFunction
  pub listed : function_named t e.name ≡ Some function
  pub sort : SortId
  pub result : result_sort t.sig function.symbol ≡ Some sort
  pub typed : Some e.ty ≡ type_by local_type (rep_of t sort)

-- no dummy, not the unit's name, no FORTRAN name of the theory, and no text of any length
pub record IsLocal (t : Theory) (u : Subroutine) (e : Decl) : Type 0 where
  pub no_dummy : is_among e.name u.dummies ≡ false
  pub not_unit : is_among e.name (u.name ∷ []) ≡ false
  pub not_fortran : is_among e.name (fortran_names t) ≡ false
  pub sized : e.ty ≡ fortran.CharAny → ⊥

-- a literal whose sort fits that of its place, or a name with the type that this sort gives
abbrev pub IsOperandAt : Theory → Subroutine → SortId → Operand → Type 0
IsOperandAt t u s (operand.Name n) = HasTypeOf t u n s
IsOperandAt t u s (operand.Int z) = (f : SymId) × (literal_written t s (operand.Int z) ≡ Some f)
IsOperandAt t u s (operand.Text x) = (f : SymId) × (literal_written t s (operand.Text x) ≡ Some f)

-- as many operands as places, each right at its place
abbrev pub AreOperandsAt : Theory → Subroutine → List SortId → List Operand → Type 0
AreOperandsAt t u [] [] = Unit {0}
AreOperandsAt t u [] (o ∷ os) = ⊥
AreOperandsAt t u (s ∷ ss) [] = ⊥
AreOperandsAt t u (s ∷ ss) (o ∷ os) = IsOperandAt t u s o × AreOperandsAt t u ss os

-- an output of the diagram or a declared local, with the type of the sort that is put there
pub record IsTarget (t : Theory) (d : Diagram) (u : Subroutine) (n : List ℕ) (s : SortId) : Type 0 where
  pub settable : IsTrue (is_among n (entry_names d.outputs)) ⊎ ((e : Decl) × Contains (further u) e × (e.name ≡ n) × IsLocal t u e)
  pub typed : HasTypeOf t u n s

abbrev pub IsNamedTarget : Theory → Diagram → Subroutine → Option (List ℕ) → Option SortId → Type 0
IsNamedTarget t d u None s = ⊥
IsNamedTarget t d u (Some n) None = ⊥
IsNamedTarget t d u (Some n) (Some s) = IsTarget t d u n s

-- as many targets as output symbols, each with the type of its symbol's result sort
abbrev pub AreTargets : Theory → Diagram → Subroutine → List SymId → List Operand → Type 0
AreTargets t d u [] [] = Unit {0}
AreTargets t d u [] (o ∷ os) = ⊥
AreTargets t d u (f ∷ fs) [] = ⊥
AreTargets t d u (f ∷ fs) (o ∷ os) = IsNamedTarget t d u (name_in o) (result_sort t.sig f) × AreTargets t d u fs os

-- a call of a routine: its inputs are operands, its outputs targets, and nothing else is handed over
pub record IsRoutineCall (t : Theory) (d : Diagram) (u : Subroutine) (r : Routine) (args : List Operand) : Type 0 where
  pub counted : length args ≡ length r.inputs + length r.outputs
  pub inputs : AreOperandsAt t u r.inputs (take (length r.inputs) args)
  pub outputs : AreTargets t d u r.outputs (drop (length r.inputs) args)

-- a call of a copy routine: two names with the types that one array sort with that routine gives
pub record IsCopyCall (t : Theory) (d : Diagram) (u : Subroutine) (routine : List ℕ) (args : List Operand) : Type 0 where
  pub from : List ℕ
  pub target : List ℕ
  pub two : args ≡ operand.Name from ∷ operand.Name target ∷ []
  pub sort : SortId
  pub copies : copy_of t sort ≡ Some routine
  pub rep : Rep
  pub represented : rep_of t sort ≡ Some rep
  pub array : is_scalar rep ≡ false
  pub typed : HasTypeOf t u from sort
  pub settable : IsTarget t d u target sort

abbrev pub IsCallOf : Theory → Diagram → Subroutine → List ℕ → Option Routine → List Operand → Type 0
IsCallOf t d u n (Some r) args = IsRoutineCall t d u r args
IsCallOf t d u n None args = IsCopyCall t d u n args

-- an assignment from a name: both names have the types that one scalar sort gives
pub record IsNameAssign (t : Theory) (d : Diagram) (u : Subroutine) (target from : List ℕ) : Type 0 where
  pub sort : SortId
  pub rep : Rep
  pub represented : rep_of t sort ≡ Some rep
  pub scalar : is_scalar rep ≡ true
  pub typed : HasTypeOf t u from sort
  pub settable : IsTarget t d u target sort

-- an assignment from a literal: the target is an output whose sort the literal's sort fits
pub record IsLiteralAssign (t : Theory) (d : Diagram) (u : Subroutine) (target : List ℕ) (from : Operand) : Type 0 where
  pub sort : SortId
  pub output : output_sort d target ≡ Some sort
  pub literal : SymId
  pub stands : literal_written t sort from ≡ Some literal
  pub settable : IsTarget t d u target sort

abbrev pub IsAssign : Theory → Diagram → Subroutine → List ℕ → Operand → Type 0
IsAssign t d u target (operand.Name from) = IsNameAssign t d u target from
IsAssign t d u target (operand.Int z) = IsLiteralAssign t d u target (operand.Int z)
IsAssign t d u target (operand.Text x) = IsLiteralAssign t d u target (operand.Text x)

-- a listed function that is declared, at as many operands as it has places, whose value goes to a target
pub record IsApply (t : Theory) (d : Diagram) (u : Subroutine) (target n : List ℕ) (args : List Operand) : Type 0 where
  pub function : FortranFunction
  pub listed : function_named t n ≡ Some function
  pub decl : Decl
  pub declared : Contains (further u) decl
  pub named : decl.name ≡ n
  pub inputs : AreOperandsAt t u (argument_sorts t.sig function.symbol) args
  pub sort : SortId
  pub result : result_sort t.sig function.symbol ≡ Some sort
  pub settable : IsTarget t d u target sort

-- what the rules on calls, assignments, functions, operands and targets ask of one statement
abbrev pub IsLawfulStatement : Theory → Diagram → Subroutine → Statement → Type 0
IsLawfulStatement t d u (Call n args) = IsCallOf t d u n (routine_named t n) args
IsLawfulStatement t d u (Assign target from) = IsAssign t d u target from
IsLawfulStatement t d u (Apply target n args) = IsApply t d u target n args

abbrev pub listed_target : Option (List ℕ) → List (List ℕ)
listed_target None = []
listed_target (Some n) = n ∷ []

-- the names that a call sets: those of a routine's outputs, and the second of a copy
abbrev pub call_targets : Option Routine → List Operand → List (List ℕ)
call_targets (Some r) args = flat_map (λ o. listed_target (name_in o)) (drop (length r.inputs) args)
call_targets None args = flat_map (λ o. listed_target (name_in o)) (drop 1 args)

-- the names that a statement sets
abbrev pub targets : Theory → Statement → List (List ℕ)
targets t (Call n args) = call_targets (routine_named t n) args
targets t (Assign target from) = target ∷ []
targets t (Apply target n args) = target ∷ []

-- The unit rules.
pub record Lawful (t : Theory) (d : Diagram) (u : Subroutine) : Type 0 where
  -- the unit's name is the diagram's, and its dummies are the inputs and then the outputs
  pub named : u.name ≡ d.name
  pub dummies : u.dummies ≡ entry_names (dummies_of d)
  -- the dummies are declared first, in order, with the types that their sorts give
  pub declared : map typed_name (take (length u.dummies) u.declarations) ≡ map (typed_dummy t) (dummies_of d)
  -- then come locals and functions
  pub behind : AllByRecursion (λ e. IsLocal t u e ⊎ IsDeclaredFunction t e) (further u)
  -- no name is declared twice
  pub declared_once : IsTrue (are_distinct (map (λ (e : Decl). e.name) u.declarations))
  -- each statement calls what the theory lists, with operands and targets of the right types
  pub statements : AllByRecursion (IsLawfulStatement t d u) u.statements
  -- no name is a target twice
  pub set_once : IsTrue (are_distinct (flat_map (targets t) u.statements))
