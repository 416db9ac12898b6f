use Rattle.std.proofs.Common.{◌≡◌, map, take}
use Rattle.am_term.specs.declared.term.Term.TheVariants.{Var}
use Rattle.am_example.proofs.terms.variables.Given as goal

abbrev pub invariant-loop-n : goal.invariant-loop-n
invariant-loop-n l = l.terms ≡ map (λ v. Var v.0 v.1) (take l.n-index l.of)
