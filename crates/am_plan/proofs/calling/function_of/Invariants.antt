use Rattle.std.proofs.Common.{◌≡◌, ◌+◌, length}
use Rattle.am_plan.specs.Calls.{function_from}
use Rattle.am_plan.proofs.calling.function_of.Given as goal

-- what is left decides
abbrev pub invariant-loop-rest : goal.invariant-loop-rest
invariant-loop-rest l = (function_from 0 l.symbol l.functions ≡ function_from l.k l.symbol l.rest) × (l.k + length l.rest ≡ length l.functions)

abbrev pub decreases-loop-rest : goal.decreases-loop-rest
decreases-loop-rest l = length l.rest
