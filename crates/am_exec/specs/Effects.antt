-- What a statement reads and sets, and which terms it puts there.
use Rattle.std.specs.Prelude.{◌++◌, ℕ, Option, Some, None, List, [], ◌∷◌, map, length, take, drop}
use Rattle.am_term.specs.declared.id.SortId.{SortId}
use Rattle.am_term.specs.declared.id.SymId.{SymId}
use Rattle.am_term.specs.declared.term.Term.{Term}
use Rattle.am_term.specs.declared.term.Term.TheVariants.{App}
use Rattle.am_term.specs.Sorting.{sort_of}
use Rattle.am_theory.specs.declared.theory.Routine.{Routine}
use Rattle.am_theory.specs.declared.theory.FortranFunction.{FortranFunction}
use Rattle.am_theory.specs.declared.theory.Theory.{Theory}
use Rattle.am_theory.specs.Lookups.{result_sort, argument_sorts, routine_named, function_named}
use Rattle.am_diagram.specs.declared.diagram.Diagram.{Diagram}
use Rattle.am_fortran.specs.declared.statement.Operand.{Operand}
use Rattle.am_fortran.specs.declared.statement.Operand.TheVariants as operand
use Rattle.am_fortran.specs.declared.statement.Statement.{Statement}
use Rattle.am_fortran.specs.declared.statement.Statement.TheVariants.{Call, Assign, Apply}
use Rattle.am_exec.specs.Literals.{literal_written}
use Rattle.am_exec.specs.Run.{name_in, output_sort}
use Rattle.am_exec.specs.States.{Store, term_held, entries_held, listed_term, literal_term, operand_terms}

-- the arguments that a call reads: those at a routine's inputs, the first of a copy
abbrev pub read_by_call : Option Routine → List Operand → List Operand
read_by_call (Some r) args = take (length r.inputs) args
read_by_call None args = take 1 args

-- the operands that a statement reads
abbrev pub reads : Theory → Statement → List Operand
reads t (Call n args) = read_by_call (routine_named t n) args
reads t (Assign target from) = from ∷ []
reads t (Apply target n args) = args

-- the arguments that a call sets: those at a routine's outputs, the second of a copy
abbrev pub set_by_call : Option Routine → List Operand → List Operand
set_by_call (Some r) args = drop (length r.inputs) args
set_by_call None args = drop 1 args

-- what stands where a statement sets a name: a name, or a literal, which is none
abbrev pub target_names : Theory → Statement → List (Option (List ℕ))
target_names t (Call n args) = map name_in (set_by_call (routine_named t n) args)
target_names t (Assign target from) = Some target ∷ []
target_names t (Apply target n args) = Some target ∷ []

abbrev pub held_in : Store → Option (List ℕ) → Option Term
held_in store None = None
held_in store (Some n) = term_held store n

-- the term that the first argument of a copy holds
abbrev pub copied_term : Store → List Operand → Option Term
copied_term store [] = None
copied_term store (o ∷ os) = held_in store (name_in o)

-- the literal symbol that an operand stands for at an output; at any other name there is none
abbrev pub literal_for : Theory → Option SortId → Operand → Option SymId
literal_for t None o = None
literal_for t (Some place) o = literal_written t place o

abbrev pub literal_term_of : Option SymId → Option Term
literal_term_of None = None
literal_term_of (Some f) = Some (literal_term f)

-- the term that an assignment puts: what a name holds, or the literal that the output asks for
abbrev pub assigned_term : Theory → Store → Option SortId → Operand → Option Term
assigned_term t store place (operand.Name n) = term_held store n
assigned_term t store place (operand.Int z) = literal_term_of (literal_for t place (operand.Int z))
assigned_term t store place (operand.Text x) = literal_term_of (literal_for t place (operand.Text x))

-- a routine's output symbols at the inputs' terms; a copy's own term
abbrev pub call_terms : Theory → Store → Option Routine → List Operand → List Term
call_terms t store (Some r) args = map (λ (f : SymId). App f (operand_terms t store r.inputs (take (length r.inputs) args))) r.outputs
call_terms t store None args = listed_term (copied_term store args)

abbrev pub applied_terms : Theory → Store → Option FortranFunction → List Operand → List Term
applied_terms t store None args = []
applied_terms t store (Some f) args = App f.symbol (operand_terms t store (argument_sorts t.sig f.symbol) args) ∷ []

-- the terms that the targets are to hold, in their order
abbrev pub put_terms : Theory → Diagram → Store → Statement → List Term
put_terms t d store (Call n args) = call_terms t store (routine_named t n) args
put_terms t d store (Assign target from) = listed_term (assigned_term t store (output_sort d target) from)
put_terms t d store (Apply target n args) = applied_terms t store (function_named t n) args

-- what the names hold after a statement
abbrev pub put : Theory → Diagram → Store → Statement → Store
put t d store s = store ++ entries_held (target_names t s) (put_terms t d store s)

-- the sort of a term that is there, by the sorts of the inputs
abbrev pub term_sort : Theory → List SortId → Option Term → Option SortId
term_sort t ins None = None
term_sort t ins (Some x) = sort_of t.sig ins x

abbrev pub literal_sort : Theory → Option SymId → Option SortId
literal_sort t None = None
literal_sort t (Some f) = result_sort t.sig f

abbrev pub assigned_sort : Theory → List SortId → Store → Option SortId → Operand → Option SortId
assigned_sort t ins store place (operand.Name n) = term_sort t ins (term_held store n)
assigned_sort t ins store place (operand.Int z) = literal_sort t (literal_for t place (operand.Int z))
assigned_sort t ins store place (operand.Text x) = literal_sort t (literal_for t place (operand.Text x))

abbrev pub call_sorts : Theory → List SortId → Store → Option Routine → List Operand → List (Option SortId)
call_sorts t ins store (Some r) args = map (result_sort t.sig) r.outputs
call_sorts t ins store None args = term_sort t ins (copied_term store args) ∷ []

abbrev pub applied_sort : Theory → Option FortranFunction → Option SortId
applied_sort t None = None
applied_sort t (Some f) = result_sort t.sig f.symbol

-- the sorts of the terms that the targets are to hold: of a routine's output and of a function's value
-- the result sort of its symbol
abbrev pub put_sorts : Theory → Diagram → List SortId → Store → Statement → List (Option SortId)
put_sorts t d ins store (Call n args) = call_sorts t ins store (routine_named t n) args
put_sorts t d ins store (Assign target from) = assigned_sort t ins store (output_sort d target) from ∷ []
put_sorts t d ins store (Apply target n args) = applied_sort t (function_named t n) ∷ []
