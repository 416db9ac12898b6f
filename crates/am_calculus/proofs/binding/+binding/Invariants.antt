use Rattle.std.proofs.Common.{◌≡◌, take}
use Rattle.am_term.specs.Instance.{instances}
use Rattle.am_calculus.proofs.binding.+binding.Given as goal

-- the terms so far, bound
abbrev pub invariant-bind_all-loop-term : goal.invariant-bind_all-loop-term
invariant-bind_all-loop-term l = l.made ≡ instances l.with (take l.term-index l.terms)
