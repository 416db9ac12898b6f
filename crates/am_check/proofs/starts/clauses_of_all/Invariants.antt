use Rattle.std.proofs.Common.{◌≡◌, take, map}
use Rattle.am_clause.specs.ClauseForm.{cnf}
use Rattle.am_theory.specs.declared.theory.Axiom.{Axiom}
use Rattle.am_check.proofs.starts.clauses_of_all.Given as goal

-- the clauses so far
abbrev pub invariant-loop-axiom : goal.invariant-loop-axiom
invariant-loop-axiom l = l.made ≡ map cnf (map (λ (a : Axiom). a.formula) (take l.axiom-index l.theory.axioms))
