use Rattle.std.proofs.Common.{◌≡◌, ◌++◌, drop}
use Rattle.std.specs.List.{zip}
use Rattle.am_shared_unify.proofs.opening.zipped.Given as goal

-- the pairs so far, and those of what is left
abbrev pub invariant-loop-i : goal.invariant-loop-i
invariant-loop-i l = zip l.left l.right ≡ l.made ++ zip (drop l.i l.left) (drop l.i l.right)
