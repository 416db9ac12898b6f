-- Running a unit by terms: the outputs' terms, or the first faulty item with its first kind.
use Rattle.std.specs.Prelude.{◌≡◌, ◌⊎◌, ◌+◌, ◌++◌, ℕ, Option, Some, None, Result, Ok, Err, List, [], ◌∷◌, length, if◌then◌else◌}
use Rattle.am_term.specs.declared.term.Term.{Term}
use Rattle.am_theory.specs.declared.theory.Theory.{Theory}
use Rattle.am_diagram.specs.declared.diagram.Diagram.{Diagram}
use Rattle.am_diagram.specs.Listed.{entry_names, entry_sorts}
use Rattle.am_fortran.specs.declared.statement.Decl.{Decl}
use Rattle.am_fortran.specs.declared.statement.Statement.{Statement}
use Rattle.am_fortran.specs.declared.unit.Unit.{Unit as Subroutine}
use Rattle.am_exec.specs.declared.fault.ExecKind.{ExecKind}
use Rattle.am_exec.specs.declared.fault.ExecKind.TheVariants.{BadDeclaration, OutputNotSet, NoMemory}
use Rattle.am_exec.specs.declared.fault.ExecFault.{ExecFault}
use Rattle.am_exec.specs.States.{Store, term_held, inputs_held}
use Rattle.am_exec.specs.Effects.{put}
use Rattle.am_exec.specs.ItemFaults.{is_bad_head, is_bad_declaration, lacks_dummy, statement_kind}

-- the item of this number is at fault
abbrev pub fault_at : ℕ → ExecKind → ExecFault
fault_at item kind = record { item = item; kind = kind }

-- how many declarations stand before the first bad one of these, which follow earlier ones
abbrev pub bad_declaration : Theory → Diagram → Subroutine → List Decl → List Decl → Option ℕ
bad_declaration t d u earlier [] = None
bad_declaration t d u earlier (e ∷ es) = if is_bad_declaration t d u earlier e then Some (length earlier) else bad_declaration t d u (earlier ++ e ∷ []) es

abbrev pub with_held_term : Option Term → Option (List Term) → Option (List Term)
with_held_term None ts = None
with_held_term (Some t) None = None
with_held_term (Some t) (Some ts) = Some (t ∷ ts)

-- the terms that names hold, if each holds one
abbrev pub terms_held : Store → List (List ℕ) → Option (List Term)
terms_held store [] = Some []
terms_held store (n ∷ ns) = with_held_term (term_held store n) (terms_held store ns)

-- OutputNotSet: at the end, an output holds no term
abbrev pub outputs_or_unset : ℕ → Option (List Term) → Result (List Term) ExecFault
outputs_or_unset item None = Err (fault_at item OutputNotSet)
outputs_or_unset item (Some ts) = Ok ts

-- at the end, which is the item of this number: a dummy without a declaration, an output that isn't set
abbrev pub at_end : Diagram → Subroutine → ℕ → Store → Result (List Term) ExecFault
at_end d u item store = if lacks_dummy u then Err (fault_at item BadDeclaration) else outputs_or_unset item (terms_held store (entry_names d.outputs))

-- first one thing, and with what it gives another; the first fault stands
infixl 10 ◌>>=◌
abbrev pub ◌>>=◌ : {A B : Type 0} → Result A ExecFault → (A → Result B ExecFault) → Result B ExecFault
(Ok x) >>= f = f x
(Err e) >>= f = Err e

abbrev pub unless : ℕ → Option ExecKind → Store → Result Store ExecFault
unless item None store = Ok store
unless item (Some kind) store = Err (fault_at item kind)

-- a statement at the item of this number: what the names hold behind it, or its first kind
abbrev pub after_statement : Theory → Diagram → Subroutine → ℕ → Store → Statement → Result Store ExecFault
after_statement t d u item store s = unless item (statement_kind t d u (entry_sorts d.inputs) store s) (put t d store s)

-- the statements from the item of this number on, and then the end
abbrev pub stated : Theory → Diagram → Subroutine → ℕ → Store → List Statement → Result (List Term) ExecFault
stated t d u item store [] = at_end d u item store
stated t d u item store (s ∷ ss) = after_statement t d u item store s >>= λ next. stated t d u (item + 1) next ss

-- the declarations stand at the items from 2 on
abbrev pub after_declarations : Theory → Diagram → Subroutine → Option ℕ → Result (List Term) ExecFault
after_declarations t d u (Some k) = Err (fault_at (k + 2) BadDeclaration)
after_declarations t d u None = stated t d u (length u.declarations + 2) (inputs_held d.inputs) u.statements

-- The outputs' terms, or the first faulty item with its first kind: the head, the declarations, the
-- statements and the end, in this order.
unfoldable pub terms : Theory → Diagram → Subroutine → Result (List Term) ExecFault
terms t d u = if is_bad_head d u then Err (fault_at 1 BadDeclaration) else after_declarations t d u (bad_declaration t d u [] u.declarations)

-- the one fault that may come for any unit
abbrev pub no_memory : ExecFault
no_memory = fault_at 0 NoMemory

-- the answer is what its definition gives, or that memory is out
abbrev pub IsAnswer : {X : Type 0} → Result X ExecFault → Result X ExecFault → Type 0
IsAnswer (Ok x) wanted = wanted ≡ Ok x
IsAnswer (Err f) wanted = (f ≡ no_memory) ⊎ (wanted ≡ Err f)
