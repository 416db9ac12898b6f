use Rattle.std.proofs.Common.{◌≡◌, ◌+◌, length}
use Rattle.am_plan.specs.Calls.{routine_from}
use Rattle.am_plan.proofs.calling.routine_of.Given as goal

-- what is left decides
abbrev pub invariant-loop-rest : goal.invariant-loop-rest
invariant-loop-rest l = (routine_from 0 l.symbol l.routines ≡ routine_from l.k l.symbol l.rest) × (l.k + length l.rest ≡ length l.routines)

abbrev pub decreases-loop-rest : goal.decreases-loop-rest
decreases-loop-rest l = length l.rest
