use Rattle.std.proofs.Common.{◌≡◌, length}
use Rattle.am_term.specs.Instance.{instance_literals}
use Rattle.am_calculus.specs.Unmade.{any_larger}
use Rattle.am_calculus.proofs.sizing.is_any_larger.Given as goal

-- what is left decides
abbrev pub invariant-loop-rest : goal.invariant-loop-rest
invariant-loop-rest l = any_larger l.most (instance_literals l.with.terms.now l.literals) ≡ any_larger l.most (instance_literals l.with.terms.now l.rest)

abbrev pub decreases-loop-rest : goal.decreases-loop-rest
decreases-loop-rest l = length l.rest
