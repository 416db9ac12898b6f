-- Where an item of a unit is at fault: a test for each kind, and the first kind of each item.
use Rattle.std.specs.Prelude.{◌==◌, ◌+◌, ◌&&◌, ◌||◌, ℕ, Bool, true, false, not, Option, Some, None, List, [], ◌∷◌, map, length, find, slice_get, nat_lt, is_none, is_some, option_map, if◌then◌else◌}
use Rattle.std.specs.List.{list_any, flat_map}
use Rattle.std.specs.Str.{bytes_eq}
use Rattle.am_term.specs.declared.id.SortId.{SortId}
use Rattle.am_term.specs.declared.term.Term.{Term}
use Rattle.am_term.specs.NameLists.{is_among, are_distinct}
use Rattle.am_term.specs.Sorting.{fits_place}
use Rattle.am_term.specs.Weight.{nodes}
use Rattle.am_theory.specs.declared.theory.Rep.{Rep}
use Rattle.am_theory.specs.declared.theory.Routine.{Routine}
use Rattle.am_theory.specs.declared.theory.FortranFunction.{FortranFunction}
use Rattle.am_theory.specs.declared.theory.Theory.{Theory}
use Rattle.am_theory.specs.Lookups.{rep_of, copy_of, result_sort, argument_sorts, routine_named, function_named, fortran_names}
use Rattle.am_diagram.specs.declared.diagram.Diagram.{Diagram}
use Rattle.am_diagram.specs.Listed.{entry_names}
use Rattle.am_fortran.specs.declared.statement.FortranType.{FortranType}
use Rattle.am_fortran.specs.declared.statement.Decl.{Decl}
use Rattle.am_fortran.specs.declared.statement.Operand.{Operand}
use Rattle.am_fortran.specs.declared.statement.Operand.TheVariants as operand
use Rattle.am_fortran.specs.declared.statement.Statement.{Statement}
use Rattle.am_fortran.specs.declared.statement.Statement.TheVariants.{Call, Assign, Apply}
use Rattle.am_fortran.specs.declared.unit.Unit.{Unit as Subroutine}
use Rattle.am_exec.specs.declared.fault.ExecKind.{ExecKind}
use Rattle.am_exec.specs.declared.fault.ExecKind.TheVariants.{UnknownRoutine, WrongCount, NotSet, WrongSort, SetTwice, BadDeclaration, TooLarge}
use Rattle.am_exec.specs.Literals.{literal_written}
use Rattle.am_exec.specs.Run.{name_in, output_sort, is_copy}
use Rattle.am_exec.specs.Lawful.{dummies_of, further, listed_target, targets}
use Rattle.am_exec.specs.Types.{is_scalar, is_text_of_any_length, same_type, dummy_type, local_type, type_by, type_of_name}
use Rattle.am_exec.specs.States.{Store, term_held, is_held}
use Rattle.am_exec.specs.Effects.{reads, copied_term, literal_for, target_names, put_terms, put_sorts, term_sort}

-- UnknownRoutine: the name called or applied is none of the theory's for that kind of statement

abbrev pub is_unknown_call : Theory → List ℕ → Option Routine → Bool
is_unknown_call t n None = not (is_copy t n)
is_unknown_call t n (Some r) = false

abbrev pub is_unknown : Theory → Statement → Bool
is_unknown t (Call n args) = is_unknown_call t n (routine_named t n)
is_unknown t (Assign target from) = false
is_unknown t (Apply target n args) = is_none (function_named t n)

-- WrongCount: another number of arguments

-- a routine has its inputs and its outputs, a copy two arguments
abbrev pub call_count : Option Routine → ℕ
call_count (Some r) = length r.inputs + length r.outputs
call_count None = 2

abbrev pub function_count : Theory → Option FortranFunction → ℕ
function_count t None = 0
function_count t (Some f) = length (argument_sorts t.sig f.symbol)

abbrev pub has_wrong_count : Theory → Statement → Bool
has_wrong_count t (Call n args) = not (length args == call_count (routine_named t n))
has_wrong_count t (Assign target from) = false
has_wrong_count t (Apply target n args) = not (length args == function_count t (function_named t n))

-- NotSet: an input operand is a name that holds no term; the first such

abbrev pub unset_name : Store → Operand → Option (List ℕ)
unset_name store (operand.Name n) = if is_held store n then None else Some n
unset_name store (operand.Int z) = None
unset_name store (operand.Text x) = None

abbrev pub or_later : Option (List ℕ) → Option (List ℕ) → Option (List ℕ)
or_later (Some n) later = Some n
or_later None later = later

abbrev pub first_unset : Store → List Operand → Option (List ℕ)
first_unset store [] = None
first_unset store (o ∷ os) = or_later (unset_name store o) (first_unset store os)

-- WrongSort: an operand's term has another sort than its place, or there is no such literal, or the copy
-- isn't allowed

-- a literal that the theory has at the place, or a name whose term's sort fits the place
abbrev pub operand_fits_place : Theory → List SortId → Store → SortId → Operand → Bool
operand_fits_place t ins store place (operand.Name n) = fits_place t.sig (term_sort t ins (term_held store n)) place
operand_fits_place t ins store place (operand.Int z) = is_some (literal_written t place (operand.Int z))
operand_fits_place t ins store place (operand.Text x) = is_some (literal_written t place (operand.Text x))

-- as many operands as places, and each fits
abbrev pub fit_operands : Theory → List SortId → Store → List SortId → List Operand → Bool
fit_operands t ins store [] [] = true
fit_operands t ins store [] (o ∷ os) = false
fit_operands t ins store (s ∷ ss) [] = false
fit_operands t ins store (s ∷ ss) (o ∷ os) = operand_fits_place t ins store s o && fit_operands t ins store ss os

abbrev pub is_name_of : List ℕ → Option (List ℕ) → Bool
is_name_of n None = false
is_name_of n (Some m) = bytes_eq m n

-- the sort is there and has this copy routine
abbrev pub is_copied_by : Theory → List ℕ → Option SortId → Bool
is_copied_by t n None = false
is_copied_by t n (Some s) = is_name_of n (copy_of t s)

abbrev pub is_scalar_rep : Option Rep → Bool
is_scalar_rep None = false
is_scalar_rep (Some r) = is_scalar r

-- the sort is there and is kept in a scalar
abbrev pub is_scalar_sort : Theory → Option SortId → Bool
is_scalar_sort t None = false
is_scalar_sort t (Some s) = is_scalar_rep (rep_of t s)

-- the first argument of a copy is a name whose term's sort has this copy routine
abbrev pub fits_call : Theory → List SortId → Store → List ℕ → Option Routine → List Operand → Bool
fits_call t ins store n (Some r) os = fit_operands t ins store r.inputs os
fits_call t ins store n None os = is_copied_by t n (term_sort t ins (copied_term store os))

-- a name whose term's sort is kept in a scalar, or a literal that the theory has at the output
abbrev pub fits_assign : Theory → List SortId → Store → Option SortId → Operand → Bool
fits_assign t ins store place (operand.Name n) = is_scalar_sort t (term_sort t ins (term_held store n))
fits_assign t ins store place (operand.Int z) = is_some (literal_for t place (operand.Int z))
fits_assign t ins store place (operand.Text x) = is_some (literal_for t place (operand.Text x))

abbrev pub fits_function : Theory → List SortId → Store → Option FortranFunction → List Operand → Bool
fits_function t ins store None os = false
fits_function t ins store (Some f) os = fit_operands t ins store (argument_sorts t.sig f.symbol) os

abbrev pub has_wrong_sort : Theory → Diagram → List SortId → Store → Statement → Bool
has_wrong_sort t d ins store (Call n args) = not (fits_call t ins store n (routine_named t n) (reads t (Call n args)))
has_wrong_sort t d ins store (Assign target from) = not (fits_assign t ins store (output_sort d target) from)
has_wrong_sort t d ins store (Apply target n args) = not (fits_function t ins store (function_named t n) args)

-- the names among operands
abbrev pub names_set : List Operand → List (List ℕ)
names_set = flat_map (λ (o : Operand). listed_target (name_in o))

-- SetTwice: a target holds a term already, or stands twice in the call; a literal never does
abbrev pub sets_twice : Theory → Store → Statement → Bool
sets_twice t store s = list_any (is_held store) (targets t s) || not (are_distinct (targets t s))

-- BadDeclaration: a rule on the head or on declarations fails; a target isn't a declared name, or its type
-- isn't that of its term's sort; a function applied isn't declared

abbrev pub same_names : List (List ℕ) → List (List ℕ) → Bool
same_names [] [] = true
same_names [] (m ∷ ms) = false
same_names (n ∷ ns) [] = false
same_names (n ∷ ns) (m ∷ ms) = bytes_eq n m && same_names ns ms

-- the unit's name is the diagram's, and the dummies are the inputs and then the outputs
abbrev pub is_bad_head : Diagram → Subroutine → Bool
is_bad_head d u = not (bytes_eq u.name d.name && same_names u.dummies (entry_names (dummies_of d)))

-- both types are there and are one
abbrev pub have_one_type : Option FortranType → Option FortranType → Bool
have_one_type None b = false
have_one_type (Some a) None = false
have_one_type (Some a) (Some b) = same_type a b

abbrev pub declared_names : List Decl → List (List ℕ)
declared_names = map (λ (e : Decl). e.name)

-- no dummy, not the unit's name, no FORTRAN name of the theory, and no text of any length
abbrev pub is_local : Theory → Subroutine → Decl → Bool
is_local t u e = not (is_among e.name u.dummies) && (not (is_among e.name (u.name ∷ [])) && (not (is_among e.name (fortran_names t)) && not (is_text_of_any_length e.ty)))

abbrev pub function_type : Theory → Option SortId → Option FortranType
function_type t None = None
function_type t (Some s) = type_by local_type (rep_of t s)

abbrev pub has_function_type : Theory → FortranType → Option FortranFunction → Bool
has_function_type t ty None = false
has_function_type t ty (Some f) = have_one_type (Some ty) (function_type t (result_sort t.sig f.symbol))

-- a listed function with its result's type
abbrev pub is_declared_function : Theory → Decl → Bool
is_declared_function t e = has_function_type t e.ty (function_named t e.name)

-- the dummy in its turn, with the type that its sort gives; behind the dummies a local or a function
abbrev pub declares : Theory → Subroutine → Option (List ℕ × SortId) → Decl → Bool
declares t u (Some dummy) e = bytes_eq e.name dummy.0 && have_one_type (Some e.ty) (type_by dummy_type (rep_of t dummy.1))
declares t u None e = is_local t u e || is_declared_function t e

-- a declaration behind earlier ones: its name is one of theirs, or it isn't what may stand there
abbrev pub is_bad_declaration : Theory → Diagram → Subroutine → List Decl → Decl → Bool
is_bad_declaration t d u earlier e = is_among e.name (declared_names earlier) || not (declares t u (slice_get (dummies_of d) (length earlier)) e)

-- there are fewer declarations than dummies, so that a dummy has none
abbrev pub lacks_dummy : Subroutine → Bool
lacks_dummy u = nat_lt (length u.declarations) (length u.dummies)

-- the type with which a name is declared
abbrev pub declared_type : Subroutine → List ℕ → Option FortranType
declared_type u n = option_map (λ (e : Decl). e.ty) (find (λ (e : Decl). bytes_eq e.name n) u.declarations)

-- an output, or a declared name that is neither a dummy's nor a function's
abbrev pub may_be_set : Theory → Diagram → Subroutine → List ℕ → Bool
may_be_set t d u n = is_among n (entry_names d.outputs) || (is_among n (declared_names (further u)) && is_none (function_named t n))

-- a name that may be set and has the type that the sort gives
abbrev pub is_target : Theory → Diagram → Subroutine → Option (List ℕ) → Option SortId → Bool
is_target t d u None s = false
is_target t d u (Some n) None = false
is_target t d u (Some n) (Some s) = may_be_set t d u n && have_one_type (declared_type u n) (type_of_name t u.dummies n s)

-- as many targets as sorts, and each is one
abbrev pub are_targets : Theory → Diagram → Subroutine → List (Option (List ℕ)) → List (Option SortId) → Bool
are_targets t d u [] [] = true
are_targets t d u [] (s ∷ ss) = false
are_targets t d u (n ∷ ns) [] = false
are_targets t d u (n ∷ ns) (s ∷ ss) = is_target t d u n s && are_targets t d u ns ss

-- a statement that applies a function that isn't declared behind the dummies
abbrev pub applies_undeclared : Subroutine → Statement → Bool
applies_undeclared u (Call n args) = false
applies_undeclared u (Assign target from) = false
applies_undeclared u (Apply target n args) = not (is_among n (declared_names (further u)))

-- at the item behind the declarations a dummy without a declaration counts too; later ones aren't reached then
abbrev pub is_badly_declared : Theory → Diagram → Subroutine → List SortId → Store → Statement → Bool
is_badly_declared t d u ins store s = lacks_dummy u || (applies_undeclared u s || not (are_targets t d u (target_names t s) (put_sorts t d ins store s)))

-- TooLarge: a term that a target is to hold has more than 10,000 nodes
abbrev pub is_large : Term → Bool
is_large x = nat_lt 10000 (nodes x)

abbrev pub is_too_large : Theory → Diagram → Store → Statement → Bool
is_too_large t d store s = list_any is_large (put_terms t d store s)

-- the first kind that holds of a statement, in the order of their numbers

abbrev pub not_set_or : Option (List ℕ) → Option ExecKind → Option ExecKind
not_set_or (Some n) later = Some (NotSet n)
not_set_or None later = later

abbrev pub statement_kind : Theory → Diagram → Subroutine → List SortId → Store → Statement → Option ExecKind
statement_kind t d u ins store s =
    if is_unknown t s then Some UnknownRoutine else
    if has_wrong_count t s then Some WrongCount else
    not_set_or (first_unset store (reads t s))
    (if has_wrong_sort t d ins store s then Some WrongSort else
    if sets_twice t store s then Some SetTwice else
    if is_badly_declared t d u ins store s then Some BadDeclaration else
    if is_too_large t d store s then Some TooLarge else
    None)
