-- The subroutine of an answer: one statement for each call, and then the copies.
use Rattle.std.specs.Prelude.{◌≡◌, ◌++◌, ℕ, Bool, false, Option, Some, None, List, [], ◌∷◌, map, slice_get, slice_index_or, not, if◌then◌else◌}
use Rattle.std.specs.List.{flat_map}
use Rattle.std.specs.Str.{bytes_eq}
use Rattle.am_term.specs.declared.id.SortId.{SortId}
use Rattle.am_term.specs.declared.id.SymId.{SymId}
use Rattle.am_term.specs.declared.term.Term.{Term}
use Rattle.am_term.specs.declared.term.Term.TheOpen.{Term-F}
use Rattle.am_term.specs.declared.term.Term.TheViews.{out-Term}
use Rattle.am_term.specs.NameLists.{is_among}
use Rattle.am_clause.specs.Distinct.{distinct}
use Rattle.am_theory.specs.declared.theory.Rep.{Rep}
use Rattle.am_theory.specs.declared.theory.Rep.TheVariants.{Double}
use Rattle.am_theory.specs.declared.theory.LitValue.{LitValue}
use Rattle.am_theory.specs.declared.theory.LitValue.TheVariants as value
use Rattle.am_theory.specs.declared.theory.LiteralDecl.{LiteralDecl}
use Rattle.am_theory.specs.declared.theory.Routine.{Routine}
use Rattle.am_theory.specs.declared.theory.FortranFunction.{FortranFunction}
use Rattle.am_theory.specs.declared.theory.Theory.{Theory}
use Rattle.am_theory.specs.Lookups.{rep_of, copy_of, literal_declared, result_sort}
use Rattle.am_diagram.specs.declared.diagram.Diagram.{Diagram}
use Rattle.am_diagram.specs.Listed.{entry_names}
use Rattle.am_fortran.specs.declared.statement.Decl.{Decl}
use Rattle.am_fortran.specs.declared.statement.Operand.{Operand}
use Rattle.am_fortran.specs.declared.statement.Operand.TheVariants as operand
use Rattle.am_fortran.specs.declared.statement.Statement.{Statement}
use Rattle.am_fortran.specs.declared.statement.Statement.TheVariants.{Call, Assign, Apply}
use Rattle.am_fortran.specs.declared.unit.Unit.{Unit as Subroutine}
use Rattle.am_exec.specs.Types.{dummy_type, local_type, is_scalar}
use Rattle.am_exec.specs.Lawful.{dummies_of}
use Rattle.am_plan.specs.declared.call.Callee.{Callee}
use Rattle.am_plan.specs.declared.call.Callee.TheVariants as callee
use Rattle.am_plan.specs.Calls.{PlannedCall, calls, made_by, listed_option}
use Rattle.am_plan.specs.Names.{Named, named_terms, locals, name_of_term}

-- ---- operands
abbrev pub written_value : LitValue → Operand
written_value (value.Int z) = operand.Int z
written_value (value.Text x) = operand.Text x

abbrev pub literal_or : Operand → Option LiteralDecl → Operand
literal_or o None = o
literal_or o (Some l) = written_value l.value

abbrev pub operand_at : Theory → Diagram → List Named → Term → Term-F Term → Operand
operand_at t d names x (Term-F.Var n s) = operand.Name (name_of_term names x)
operand_at t d names x (Term-F.In k) = operand.Name (slice_index_or (entry_names d.inputs) k [])
operand_at t d names x (Term-F.App f args) = literal_or (operand.Name (name_of_term names x)) (literal_declared t f)

-- what stands for a term: an input's name, a literal's value, or the name that holds the term
unfoldable pub operand_for : Theory → Diagram → List Named → Term → Operand
operand_for t d names x = operand_at t d names x (out-Term x)

-- ---- statements
abbrev pub routine_call : Theory → Diagram → List Named → PlannedCall → Option Routine → List Statement
routine_call t d names c None = []
routine_call t d names c (Some r) = Call r.name (map (operand_for t d names) c.args ++ map (λ (x : Term). operand.Name (name_of_term names x)) (made_by t c)) ∷ []

abbrev pub first_name : List Named → List Term → List ℕ
first_name names [] = []
first_name names (x ∷ xs) = name_of_term names x

abbrev pub function_call : Theory → Diagram → List Named → PlannedCall → Option FortranFunction → List Statement
function_call t d names c None = []
function_call t d names c (Some f) = Apply (first_name names (made_by t c)) f.name (map (operand_for t d names) c.args) ∷ []

abbrev pub statement_at : Theory → Diagram → List Named → PlannedCall → Callee → List Statement
statement_at t d names c (callee.Routine k) = routine_call t d names c (slice_get t.routines k)
statement_at t d names c (callee.Function k) = function_call t d names c (slice_get t.functions k)

-- one statement for a call: its inputs' operands, and the names of what it makes
abbrev pub statement_of : Theory → Diagram → List Named → PlannedCall → List Statement
statement_of t d names c = statement_at t d names c c.callee

-- ---- copies
abbrev pub is_array_rep : Option Rep → Bool
is_array_rep None = false
is_array_rep (Some r) = not (is_scalar r)

abbrev pub copy_name : Option (List ℕ) → List ℕ
copy_name None = []
copy_name (Some n) = n

-- a scalar is assigned, an array goes through the copy routine of its sort
abbrev pub copy_to : Theory → List ℕ × SortId → Operand → Statement
copy_to t o from = if is_array_rep (rep_of t o.1) then Call (copy_name (copy_of t o.1)) (from ∷ operand.Name o.0 ∷ []) else Assign o.0 from

-- a call sets this name
abbrev pub is_set : List Named → List ℕ → Bool
is_set names n = is_among n (map (λ (e : Named). e.0) names)

-- each output that no call has set is copied: from the input, the literal, or the name that holds its term
abbrev pub copies : Theory → Diagram → List Named → List (List ℕ × SortId) → List Term → List Statement
copies t d names [] answer = []
copies t d names (o ∷ os) [] = []
copies t d names (o ∷ os) (x ∷ xs) = (if is_set names o.0 then [] else copy_to t o (operand_for t d names x) ∷ []) ++ copies t d names os xs

-- ---- declarations
abbrev pub rep_or_double : Option Rep → Rep
rep_or_double None = Double
rep_or_double (Some r) = r

abbrev pub dummy_decl : Theory → List ℕ × SortId → Decl
dummy_decl t e = record { ty = dummy_type (rep_or_double (rep_of t e.1)); name = e.0 }

abbrev pub head_symbol : Term-F Term → Option SymId
head_symbol (Term-F.Var n s) = None
head_symbol (Term-F.In k) = None
head_symbol (Term-F.App f args) = Some f

abbrev pub rep_of_sort : Theory → Option SortId → Rep
rep_of_sort t None = Double
rep_of_sort t (Some s) = rep_or_double (rep_of t s)

abbrev pub rep_of_head : Theory → Option SymId → Rep
rep_of_head t None = Double
rep_of_head t (Some f) = rep_of_sort t (result_sort t.sig f)

-- a local has the type of its term's sort
abbrev pub local_decl : Theory → Named → Decl
local_decl t e = record { ty = local_type (rep_of_head t (head_symbol (out-Term e.1))); name = e.0 }

abbrev pub function_at : Theory → Callee → List FortranFunction
function_at t (callee.Routine k) = []
function_at t (callee.Function k) = listed_option (slice_get t.functions k)

abbrev pub same_function : FortranFunction → FortranFunction → Bool
same_function f g = bytes_eq f.name g.name

-- the listed functions that are called, in the order of their first use
abbrev pub functions_used : Theory → List PlannedCall → List FortranFunction
functions_used t cs = distinct same_function (flat_map (λ (c : PlannedCall). function_at t c.callee) cs)

abbrev pub called_function_decl : Theory → FortranFunction → Decl
called_function_decl t f = record { ty = local_type (rep_of_head t (Some f.symbol)); name = f.name }

-- The unit of an answer. Its name is the diagram's and its dummies are the inputs and then the outputs; these
-- are declared, then the locals in order, then the functions in order of first use, each once; then comes one
-- statement for each call, and then the copies.
pub record IsPlan (t : Theory) (d : Diagram) (answer : List Term) (u : Subroutine) : Type 0 where
  pub name : u.name ≡ d.name
  pub dummies : u.dummies ≡ entry_names (dummies_of d)
  pub declarations : u.declarations ≡ map (dummy_decl t) (dummies_of d) ++ map (local_decl t) (locals d.outputs answer (named_terms t d answer)) ++ map (called_function_decl t) (functions_used t (calls t answer))
  pub statements : u.statements ≡ flat_map (statement_of t d (named_terms t d answer)) (calls t answer) ++ copies t d (named_terms t d answer) d.outputs answer
