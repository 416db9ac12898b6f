use Rattle.std.proofs.Common.{◌≡◌, ◌+◌, length}
use Rattle.am_log.specs.Unwrapped.{first_length}
use Rattle.am_log.proofs.groups.first_group.Given as goal

-- what was counted and what is left are all
abbrev pub invariant-loop-rest : goal.invariant-loop-rest
invariant-loop-rest l = (first_length l.bytes ≡ l.count + first_length l.rest) × (length l.bytes ≡ l.count + length l.rest)

abbrev pub decreases-loop-rest : goal.decreases-loop-rest
decreases-loop-rest l = length l.rest
