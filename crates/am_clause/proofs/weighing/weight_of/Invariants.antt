use Rattle.std.proofs.Common.{◌≡◌, ◌+◌, min, take}
use Rattle.std.specs.List.{sum_by}
use Rattle.am_clause.specs.Size.{literal_weight}
use Rattle.am_clause.proofs.weighing.weight_of.Given as goal

-- the weight of the literals so far
abbrev pub invariant-loop-literal : goal.invariant-loop-literal
invariant-loop-literal l = l.total ≡ min (sum_by literal_weight (take l.literal-index l.literal-items)) (l.cap + 1)
