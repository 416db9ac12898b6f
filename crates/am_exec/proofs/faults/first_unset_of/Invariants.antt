use Rattle.std.proofs.Common.{◌≡◌, length}
use Rattle.am_exec.specs.ItemFaults.{first_unset}
use Rattle.am_exec.proofs.faults.first_unset_of.Given as goal

-- what is left decides
abbrev pub invariant-loop-rest : goal.invariant-loop-rest
invariant-loop-rest l = first_unset l.store l.operands ≡ first_unset l.store l.rest

abbrev pub decreases-loop-rest : goal.decreases-loop-rest
decreases-loop-rest l = length l.rest
