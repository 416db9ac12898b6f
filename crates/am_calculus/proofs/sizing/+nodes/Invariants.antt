use Rattle.std.proofs.Common.{◌≡◌, ◌+◌, min, take}
use Rattle.std.specs.List.{sum_by}
use Rattle.am_term.specs.Weight.{nodes}
use Rattle.am_calculus.proofs.sizing.+nodes.Given as goal

-- the nodes so far, the term's own among them
abbrev pub invariant-loop-arg : goal.invariant-loop-arg
invariant-loop-arg l = l.total ≡ min (sum_by nodes (take l.arg-index l.arg-items) + 1) 16777217
