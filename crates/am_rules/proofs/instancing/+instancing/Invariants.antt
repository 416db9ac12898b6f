use Rattle.std.proofs.Common.{◌≡◌, take}
use Rattle.am_term.specs.Instance.{instances}
use Rattle.am_rules.proofs.instancing.+instancing.Given as goal

-- the instances so far
abbrev pub invariant-instances_of-loop-term : goal.invariant-instances_of-loop-term
invariant-instances_of-loop-term l = l.made ≡ instances l.with (take l.term-index l.terms)
