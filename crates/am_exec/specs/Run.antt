-- Which numbers a unit leaves under which names, in an interpretation.
use Rattle.std.specs.Prelude.{◌∷◌, ℕ, Bool, Option, Some, None, List, [], length, take, drop, cond, option_map, option_and_then}
use Rattle.std.specs.Str.{bytes_eq}
use Rattle.am_term.specs.declared.id.SortId.{SortId}
use Rattle.am_term.specs.declared.id.SymId.{SymId}
use Rattle.am_term.specs.NameLists.{is_among}
use Rattle.am_world.specs.Interpretation.{Interpretation}
use Rattle.am_theory.specs.declared.theory.Routine.{Routine}
use Rattle.am_theory.specs.declared.theory.FortranFunction.{FortranFunction}
use Rattle.am_theory.specs.declared.theory.Theory.{Theory}
use Rattle.am_theory.specs.Lookups.{routine_named, function_named, copy_names, argument_sorts}
use Rattle.am_diagram.specs.declared.diagram.Diagram.{Diagram}
use Rattle.am_fortran.specs.declared.statement.Operand.{Operand}
use Rattle.am_fortran.specs.declared.statement.Operand.TheVariants as operand
use Rattle.am_fortran.specs.declared.statement.Statement.{Statement}
use Rattle.am_fortran.specs.declared.statement.Statement.TheVariants.{Call, Assign, Apply}
use Rattle.am_fortran.specs.declared.unit.Unit.{Unit as Subroutine}
use Rattle.am_exec.specs.Literals.{literal_written}

-- the numbers that names hold: of two pairs with one name the first counts
abbrev pub NumberStore : Type 0
NumberStore = List (List ℕ × ℕ)

-- what a name holds, if it holds something
abbrev pub number_held : NumberStore → List ℕ → Option ℕ
number_held [] n = None
number_held (p ∷ ps) n = cond (bytes_eq p.0 n) (Some p.1) (number_held ps n)

-- at the start each input's name holds the number handed in
abbrev pub handed_in : List (List ℕ × SortId) → List ℕ → NumberStore
handed_in [] ns = []
handed_in (d ∷ ds) [] = []
handed_in (d ∷ ds) (n ∷ ns) = (d.0, n) ∷ handed_in ds ns

-- what a constant symbol stands for
abbrev pub constant : Interpretation → SymId → ℕ
constant w f = w.fun f []

-- what an operand stands for: a name for what it holds, a literal for its symbol's value
abbrev pub operand_value : Interpretation → Theory → NumberStore → SortId → Operand → Option ℕ
operand_value w t state place (operand.Name n) = number_held state n
operand_value w t state place (operand.Int z) = option_map (constant w) (literal_written t place (operand.Int z))
operand_value w t state place (operand.Text x) = option_map (constant w) (literal_written t place (operand.Text x))

abbrev pub with_value : Option ℕ → Option (List ℕ) → Option (List ℕ)
with_value None vs = None
with_value (Some v) None = None
with_value (Some v) (Some vs) = Some (v ∷ vs)

-- what operands stand for at their places, if there are as many places and each stands for something
abbrev pub operand_values : Interpretation → Theory → NumberStore → List SortId → List Operand → Option (List ℕ)
operand_values w t state [] [] = Some []
operand_values w t state [] (o ∷ os) = None
operand_values w t state (s ∷ ss) [] = None
operand_values w t state (s ∷ ss) (o ∷ os) = with_value (operand_value w t state s o) (operand_values w t state ss os)

-- a name and no literal
abbrev pub name_in : Operand → Option (List ℕ)
name_in (operand.Name n) = Some n
name_in (operand.Int z) = None
name_in (operand.Text x) = None

abbrev pub stored : Option (List ℕ) → ℕ → Option NumberStore → Option NumberStore
stored None v state = None
stored (Some n) v None = None
stored (Some n) v (Some state) = Some ((n, v) ∷ state)

-- the outputs' names hold what their symbols give at the inputs' values
abbrev pub outputs_stored : Interpretation → List SymId → List ℕ → List Operand → NumberStore → Option NumberStore
outputs_stored w [] vs [] state = Some state
outputs_stored w [] vs (o ∷ os) state = None
outputs_stored w (f ∷ fs) vs [] state = None
outputs_stored w (f ∷ fs) vs (o ∷ os) state = stored (name_in o) (w.fun f vs) (outputs_stored w fs vs os state)

-- a call of a routine: all inputs are valued first
abbrev pub called : Interpretation → Theory → Routine → List Operand → NumberStore → Option NumberStore
called w t r args state = option_and_then (λ vs. outputs_stored w r.outputs vs (drop (length r.inputs) args) state) (operand_values w t state r.inputs (take (length r.inputs) args))

abbrev pub copied : Option ℕ → Option (List ℕ) → NumberStore → Option NumberStore
copied None target state = None
copied (Some v) None state = None
copied (Some v) (Some n) state = Some ((n, v) ∷ state)

abbrev pub held_by : NumberStore → Option (List ℕ) → Option ℕ
held_by state None = None
held_by state (Some n) = number_held state n

-- a call of a copy routine: the second name holds what the first one holds
abbrev pub copy_called : List Operand → NumberStore → Option NumberStore
copy_called [] state = None
copy_called (a ∷ []) state = None
copy_called (a ∷ b ∷ []) state = copied (held_by state (name_in a)) (name_in b) state
copy_called (a ∷ b ∷ c ∷ cs) state = None

-- some sort has this copy routine
abbrev pub is_copy : Theory → List ℕ → Bool
is_copy t n = is_among n (copy_names t)

abbrev pub routine_called : Interpretation → Theory → List ℕ → Option Routine → List Operand → NumberStore
    → Option NumberStore
routine_called w t n None args state = cond (is_copy t n) (copy_called args state) None
routine_called w t n (Some r) args state = called w t r args state

abbrev pub function_applied : Interpretation → Theory → List ℕ → Option FortranFunction → List Operand → NumberStore
    → Option NumberStore
function_applied w t target None args state = None
function_applied w t target (Some f) args state = option_map (λ vs. (target, w.fun f.symbol vs) ∷ state) (operand_values w t state (argument_sorts t.sig f.symbol) args)

-- the sort listed with a name
abbrev pub sort_listed : List ℕ → List (List ℕ × SortId) → Option SortId
sort_listed n [] = None
sort_listed n (e ∷ es) = cond (bytes_eq e.0 n) (Some e.1) (sort_listed n es)

-- the sort of the output of this name: the place of a literal that is assigned to it
abbrev pub output_sort : Diagram → List ℕ → Option SortId
output_sort d n = sort_listed n d.outputs

abbrev pub assigned_value : Interpretation → Theory → Option SortId → Operand → NumberStore → Option ℕ
assigned_value w t place (operand.Name n) state = number_held state n
assigned_value w t None (operand.Int z) state = None
assigned_value w t (Some s) (operand.Int z) state = operand_value w t state s (operand.Int z)
assigned_value w t None (operand.Text x) state = None
assigned_value w t (Some s) (operand.Text x) state = operand_value w t state s (operand.Text x)

-- what a statement makes of the numbers that names hold, if it can be run
abbrev pub executed : Interpretation → Theory → Diagram → Statement → NumberStore → Option NumberStore
executed w t d (Call n args) state = routine_called w t n (routine_named t n) args state
executed w t d (Assign target from) state = option_map (λ v. (target, v) ∷ state) (assigned_value w t (output_sort d target) from state)
executed w t d (Apply target n args) state = function_applied w t target (function_named t n) args state

-- one statement after another
abbrev pub executed_all : Interpretation → Theory → Diagram → List Statement → NumberStore → Option NumberStore
executed_all w t d [] state = Some state
executed_all w t d (s ∷ ss) state = option_and_then (executed_all w t d ss) (executed w t d s state)

-- the run of a unit on inputs, if there is one
abbrev pub unit_run : Interpretation → Theory → Diagram → Subroutine → List ℕ → Option NumberStore
unit_run w t d u ins = executed_all w t d u.statements (handed_in d.inputs ins)
