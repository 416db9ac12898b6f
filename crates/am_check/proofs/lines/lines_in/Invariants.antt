use Rattle.std.proofs.Common.{◌≡◌, ◌+◌, ◌≤◌, length}
use Rattle.am_log.specs.Faults.{lines_in}
use Rattle.am_check.proofs.lines.lines_in.Given as goal

-- what was counted and what is left are all
abbrev pub invariant-loop-rest : goal.invariant-loop-rest
invariant-loop-rest l = (lines_in l.bytes ≡ l.count + lines_in l.rest) × (l.count + length l.rest ≤ length l.bytes)

abbrev pub decreases-loop-rest : goal.decreases-loop-rest
decreases-loop-rest l = length l.rest
