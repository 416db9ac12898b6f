use Rattle.std.proofs.Common.{◌≡◌, ◌+◌, min, take}
use Rattle.std.specs.List.{sum_by}
use Rattle.am_term.specs.Weight.{nodes}
use Rattle.am_clause.proofs.weighing.weight_of_terms.Given as goal

-- the nodes of the terms so far
abbrev pub invariant-loop-term : goal.invariant-loop-term
invariant-loop-term l = l.total ≡ min (sum_by nodes (take l.term-index l.terms)) (l.cap + 1)
