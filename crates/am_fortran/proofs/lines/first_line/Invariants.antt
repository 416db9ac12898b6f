use Rattle.std.proofs.Common.{◌≡◌, true, take}
use Rattle.std.specs.List.{list_all}
use Rattle.am_fortran.proofs.Grouping.{is_inside}
use Rattle.am_fortran.proofs.lines.first_line.Given as goal

-- no line has ended so far
abbrev pub invariant-loop-i : goal.invariant-loop-i
invariant-loop-i l = list_all is_inside (take l.i l.bytes) ≡ true
