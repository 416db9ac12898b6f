-- what was made, and what is left, is all
use Rattle.std.specs.Prelude.{◌≡◌, ◌++◌, map, length}
use Rattle.am_search.specs.Starting.{axiom_rows}
use Rattle.am_theory.specs.declared.theory.Axiom.{Axiom}
use Rattle.am_search.proofs.starting.add_axioms.Given as goal

abbrev pub invariant-loop-rest : goal.invariant-loop-rest
invariant-loop-rest l = l.out.items ++ axiom_rows l.k (map (λ (a : Axiom). a.formula) l.rest) ≡ l.fn.out.items ++ axiom_rows 1 (map (λ (a : Axiom). a.formula) l.axioms)

abbrev pub decreases-loop-rest : goal.decreases-loop-rest
decreases-loop-rest l = length l.rest
