use Rattle.std.proofs.Common.{◌≡◌}
use Rattle.am_term.specs.Sorts.{root}
use Rattle.am_term.proofs.sorting.root.Given as goal

-- the sort that was reached has the root of the first one
abbrev pub invariant-loop-above : goal.invariant-loop-above
invariant-loop-above l = root l.sig l.here ≡ root l.fn.sig l.fn.s

abbrev pub decreases-loop-above : goal.decreases-loop-above
decreases-loop-above l = l.here.0
