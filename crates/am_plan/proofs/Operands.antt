-- What stands for a term, at each kind of term.
use Rattle.std.proofs.Common.{◌≡◌, ◌<◌, ◌≤◌, ℕ, zero, suc, refl, ap, arith, List, [], ◌∷◌, length, slice_index_or, get_or}
use Rattle.std.proofs.lemmas.Grind.{common_steps}
use Rattle.std.proofs.lemmas.Bool.Decides.{nat_tests}
use Rattle.am_term.specs.declared.id.SortId.{SortId}
use Rattle.am_term.specs.declared.id.SymId.{SymId}
use Rattle.am_term.specs.declared.term.Term.{Term}
use Rattle.am_term.specs.declared.term.Term.TheViews.{the_lemmas}
use Rattle.am_term.specs.declared.term.Term.TheVariants.{Var, In, App, outs-Var, outs-In, outs-App}
use Rattle.am_theory.specs.declared.theory.Theory.{Theory}
use Rattle.am_diagram.specs.declared.diagram.Diagram.{Diagram}
use Rattle.am_diagram.specs.Listed.{entry_names}
use Rattle.am_fortran.specs.declared.statement.Operand.TheVariants as operand
use Rattle.am_plan.specs.Names.{Named, name_of_term}
use Rattle.am_theory.specs.Lookups.{literal_declared}
use Rattle.am_plan.specs.Plan.{literal_or, operand_at, operand_for, copies}

pub operand-Var : (t : Theory) (d : Diagram) (names : List Named) (n : ℕ) (s : SortId) → operand_for t d names (Var n s) ≡ operand.Name (name_of_term names (Var n s))
unfolding operand_for
operand-Var t d names n s = ap (operand_at t d names (Var n s)) (outs-Var n s)

pub operand-In : (t : Theory) (d : Diagram) (names : List Named) (k : ℕ) → operand_for t d names (In k) ≡ operand.Name (slice_index_or (entry_names d.inputs) k [])
unfolding operand_for
operand-In t d names k = ap (operand_at t d names (In k)) (outs-In k)

pub operand-App : (t : Theory) (d : Diagram) (names : List Named) (f : SymId) (args : List Term) → operand_for t d names (App f args) ≡ literal_or (operand.Name (name_of_term names (App f args))) (literal_declared t f)
unfolding operand_for
operand-App t d names f args = ap (operand_at t d names (App f args)) (outs-App f args)

pub input-there : (es : List (List ℕ × SortId)) (k : ℕ) (d : List ℕ × SortId) → k < length es → slice_index_or (entry_names es) k [] ≡ (get_or es k d).0
input-there [] k d h = absurd (omega arith)
input-there (e ∷ es) zero d h = refl
input-there (e ∷ es) (suc k) d h = input-there es k d (omega arith)

pub input-absent : (es : List (List ℕ × SortId)) (k : ℕ) → length es ≤ k → slice_index_or (entry_names es) k [] ≡ []
input-absent [] k h = refl
input-absent (e ∷ es) zero h = absurd (omega arith)
input-absent (e ∷ es) (suc k) h = input-absent es k (omega arith)

pub copies-none : (t : Theory) (d : Diagram) (names : List Named) (os : List (List ℕ × SortId)) → copies t d names os [] ≡ []
copies-none t d names [] = refl
copies-none t d names (o ∷ os) = refl

pub ruleset stating = (common_steps, nat_tests, the_lemmas, operand-Var, operand-In, operand-App, input-there, input-absent, copies-none)
