use Rattle.std.proofs.Common.{◌≡◌, take}
use Rattle.am_unify.proofs.solving.unify.Given as goal

-- a copy of the pairs so far
abbrev pub invariant-loop-pair : goal.invariant-loop-pair
invariant-loop-pair l = l.todo ≡ take l.pair-index l.pairs
