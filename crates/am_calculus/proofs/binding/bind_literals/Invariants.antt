use Rattle.std.proofs.Common.{◌≡◌, take}
use Rattle.am_term.specs.Instance.{instance_literals}
use Rattle.am_calculus.proofs.binding.bind_literals.Given as goal

-- the literals so far, bound
abbrev pub invariant-loop-literal : goal.invariant-loop-literal
invariant-loop-literal l = l.made ≡ instance_literals l.with (take l.literal-index l.literals)
