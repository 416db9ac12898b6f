-- Which calls an answer asks for: each different one once, at its first completion.
use Rattle.std.specs.Prelude.{◌+◌, ◌++◌, ◌==◌, ◌&&◌, ℕ, Bool, false, Option, Some, None, List, [], ◌∷◌, map, slice_get, option_map, cond}
use Rattle.std.specs.List.{list_any, flat_map}
use Rattle.am_term.specs.declared.id.SymId.{SymId}
use Rattle.am_term.specs.declared.term.Term.{Term}
use Rattle.am_term.specs.declared.term.Term.TheOpen.{Term-F}
use Rattle.am_term.specs.declared.term.Term.TheViews.{out-Term}
use Rattle.am_term.specs.declared.term.Term.TheVariants.{App}
use Rattle.am_term.specs.declared.term.Term.TheFolds.{para-Term}
use Rattle.am_term.specs.Same.{same_terms}
use Rattle.am_clause.specs.Distinct.{distinct}
use Rattle.am_theory.specs.declared.theory.Routine.{Routine}
use Rattle.am_theory.specs.declared.theory.FortranFunction.{FortranFunction}
use Rattle.am_theory.specs.declared.theory.Theory.{Theory}
use Rattle.am_plan.specs.declared.call.Callee.{Callee}
use Rattle.am_plan.specs.declared.call.Callee.TheVariants as callee

-- ---- the terms in a term, its arguments' from left to right before itself
abbrev pub under_step : Term-F (Term × List Term) → List Term
under_step (Term-F.Var n s) = []
under_step (Term-F.In k) = []
under_step (Term-F.App f es) = flat_map (λ (e : Term × List Term). e.1 ++ e.0 ∷ []) es

-- the terms below a term, in the order of their completion
unfoldable pub terms_below : Term → List Term
terms_below = para-Term (List Term) under_step

-- these and then the term itself
abbrev pub completed : Term → List Term
completed t = terms_below t ++ t ∷ []

-- ---- what computes a symbol
abbrev pub has_symbol : SymId → List SymId → Bool
has_symbol f fs = list_any (λ (g : SymId). f.0 == g.0) fs

abbrev pub first_there : {A : Type 0} → Option A → Option A → Option A
first_there (Some x) y = Some x
first_there None y = y

-- the first routine, from number k on, that has the symbol as an output
abbrev pub routine_from : ℕ → SymId → List Routine → Option Callee
routine_from k f [] = None
routine_from k f (r ∷ rs) = cond (has_symbol f r.outputs) (Some (callee.Routine k)) (routine_from (k + 1) f rs)

-- the first listed function, from number k on, that computes the symbol
abbrev pub function_from : ℕ → SymId → List FortranFunction → Option Callee
function_from k f [] = None
function_from k f (g ∷ gs) = cond (f.0 == g.symbol.0) (Some (callee.Function k)) (function_from (k + 1) f gs)

-- the routine or the listed function of a symbol; a literal has none
unfoldable pub callee_of : Theory → SymId → Option Callee
callee_of t f = first_there (routine_from 0 f t.routines) (function_from 0 f t.functions)

-- a call: what is called, and the terms that its inputs stand for
pub record PlannedCall : Type 0 where
  pub callee : Callee
  pub args : List Term

abbrev pub call_with : List Term → Callee → PlannedCall
call_with args c = record { callee = c; args = args }

abbrev pub call_at : Theory → Term-F Term → Option PlannedCall
call_at t (Term-F.Var n s) = None
call_at t (Term-F.In k) = None
call_at t (Term-F.App f args) = option_map (call_with args) (callee_of t f)

-- the call that a term asks for: that of its head at its arguments
unfoldable pub call_of : Theory → Term → Option PlannedCall
call_of t x = call_at t (out-Term x)

abbrev pub listed_option : {A : Type 0} → Option A → List A
listed_option None = []
listed_option (Some x) = x ∷ []

abbrev pub same_callee : Callee → Callee → Bool
same_callee (callee.Routine j) (callee.Routine k) = j == k
same_callee (callee.Routine j) (callee.Function k) = false
same_callee (callee.Function j) (callee.Routine k) = false
same_callee (callee.Function j) (callee.Function k) = j == k

-- one callee at the same terms
abbrev pub same_call : PlannedCall → PlannedCall → Bool
same_call a b = same_callee a.callee b.callee && same_terms a.args b.args

-- what the terms of an answer ask for, in the order of completion, once for each term
abbrev pub asks_for : Theory → List Term → List PlannedCall
asks_for t answer = flat_map (λ (x : Term). listed_option (call_of t x)) (flat_map completed answer)

-- each different call once, where it is asked for first
unfoldable pub calls : Theory → List Term → List PlannedCall
calls t answer = distinct same_call (asks_for t answer)

abbrev pub outputs_made : List Term → Option Routine → List Term
outputs_made args None = []
outputs_made args (Some r) = map (λ (f : SymId). App f args) r.outputs

abbrev pub value_made : List Term → Option FortranFunction → List Term
value_made args None = []
value_made args (Some f) = App f.symbol args ∷ []

abbrev pub made_at : Theory → List Term → Callee → List Term
made_at t args (callee.Routine k) = outputs_made args (slice_get t.routines k)
made_at t args (callee.Function k) = value_made args (slice_get t.functions k)

-- the terms that a call makes: a routine's outputs, or the value of a function, at the inputs' terms
abbrev pub made_by : Theory → PlannedCall → List Term
made_by t c = made_at t c.args c.callee

-- the terms that all calls make, in order
abbrev pub made : Theory → List Term → List Term
made t answer = flat_map (made_by t) (calls t answer)
