use Rattle.std.proofs.Common.{◌≡◌, take}
use Rattle.am_term.specs.Instance.{instances}
use Rattle.am_term.proofs.substitution.+subst.Given as goal

-- the instances of the arguments so far
abbrev pub invariant-loop-arg : goal.invariant-loop-arg
invariant-loop-arg l = l.made ≡ instances l.with (take l.arg-index l.arg-items)
