use Rattle.std.proofs.Common.{◌≡◌, ◌+◌, ◌≤◌, length}
use Rattle.am_check.specs.FirstFault.{row_line}
use Rattle.am_check.proofs.Counted.{rows_before}
use Rattle.am_check.proofs.lines.row_line.Given as goal

-- the lines so far and those before the row that are left are all
abbrev pub invariant-loop-rest : goal.invariant-loop-rest
invariant-loop-rest l = (row_line l.proof l.number ≡ l.line + rows_before l.left l.rest) × (l.line + length l.rest ≤ 1 + length l.proof)

abbrev pub decreases-loop-rest : goal.decreases-loop-rest
decreases-loop-rest l = length l.rest
