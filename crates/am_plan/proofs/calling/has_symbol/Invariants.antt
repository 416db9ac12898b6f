use Rattle.std.proofs.Common.{◌≡◌, length}
use Rattle.am_plan.specs.Calls.{has_symbol}
use Rattle.am_plan.proofs.calling.has_symbol.Given as goal

-- what is left decides
abbrev pub invariant-loop-rest : goal.invariant-loop-rest
invariant-loop-rest l = has_symbol l.symbol l.symbols ≡ has_symbol l.symbol l.rest

abbrev pub decreases-loop-rest : goal.decreases-loop-rest
decreases-loop-rest l = length l.rest
