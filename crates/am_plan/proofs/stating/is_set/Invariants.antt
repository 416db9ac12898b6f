use Rattle.std.proofs.Common.{◌≡◌, length}
use Rattle.am_plan.specs.Plan.{is_set}
use Rattle.am_plan.proofs.stating.is_set.Given as goal

-- what is left decides
abbrev pub invariant-loop-rest : goal.invariant-loop-rest
invariant-loop-rest l = is_set l.names l.name ≡ is_set l.rest l.name

abbrev pub decreases-loop-rest : goal.decreases-loop-rest
decreases-loop-rest l = length l.rest
