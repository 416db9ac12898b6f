use Rattle.std.proofs.Common.{◌≡◌, take, map}
use Rattle.am_unify.specs.Substitution.{replace}
use Rattle.am_unify.proofs.applying.+replaced.Given as goal

-- the arguments so far, with the variable replaced
abbrev pub invariant-loop-arg : goal.invariant-loop-arg
invariant-loop-arg l = l.made ≡ map (replace l.n l.by) (take l.arg-index l.arg-items)
