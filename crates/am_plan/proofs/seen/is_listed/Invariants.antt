use Rattle.std.proofs.Common.{◌≡◌, length}
use Rattle.am_clause.specs.Distinct.{among}
use Rattle.am_plan.specs.Calls.{same_call}
use Rattle.am_plan.proofs.seen.is_listed.Given as goal

-- what is left decides
abbrev pub invariant-loop-rest : goal.invariant-loop-rest
invariant-loop-rest l = among same_call l.call l.calls ≡ among same_call l.call l.rest

abbrev pub decreases-loop-rest : goal.decreases-loop-rest
decreases-loop-rest l = length l.rest
