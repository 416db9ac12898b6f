use Rattle.std.proofs.Common.{◌≡◌, take}
use Rattle.am_unify.specs.Substitution.{applies, listed}
use Rattle.am_unify.proofs.applying.+applied.Given as goal

-- the instances of the arguments so far
abbrev pub invariant-loop-arg : goal.invariant-loop-arg
invariant-loop-arg l = l.made ≡ applies (listed l.found) (take l.arg-index l.arg-items)
