use Rattle.std.proofs.Common.{◌≡◌, min, take}
use Rattle.std.specs.List.{sum_by}
use Rattle.am_term.specs.Instance.{instances}
use Rattle.am_term.specs.Weight.{nodes}
use Rattle.am_calculus.proofs.sizing.+counting.Given as goal

-- the nodes of the instances of the terms so far
abbrev pub invariant-all_nodes-loop-term : goal.invariant-all_nodes-loop-term
invariant-all_nodes-loop-term l = l.total ≡ min (sum_by nodes (instances l.with.terms.now (take l.term-index l.terms))) 16777217
