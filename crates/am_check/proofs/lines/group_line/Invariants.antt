use Rattle.std.proofs.Common.{◌≡◌, ◌+◌, ◌≤◌, length}
use Rattle.am_check.specs.Phases.{line_of_group}
use Rattle.am_check.proofs.Counted.{groups_before}
use Rattle.am_check.proofs.lines.group_line.Given as goal

-- the lines so far and those before the group that are left are all
abbrev pub invariant-loop-rest : goal.invariant-loop-rest
invariant-loop-rest l = (line_of_group l.unit l.place ≡ l.line + groups_before l.left l.rest) × (l.line + length l.rest ≤ 1 + length l.unit)

abbrev pub decreases-loop-rest : goal.decreases-loop-rest
decreases-loop-rest l = length l.rest
