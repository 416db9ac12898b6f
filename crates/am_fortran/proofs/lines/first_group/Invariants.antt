use Rattle.std.proofs.Common.{◌-◌, length}
use Rattle.am_fortran.proofs.Grouping.{IsFront}
use Rattle.am_fortran.proofs.lines.first_group.Given as goal

-- a line and continuation lines so far
abbrev pub invariant-loop-end : goal.invariant-loop-end
invariant-loop-end l = IsFront l.bytes l.end l.count

abbrev pub decreases-loop-end : goal.decreases-loop-end
decreases-loop-end l = length l.bytes - l.end
