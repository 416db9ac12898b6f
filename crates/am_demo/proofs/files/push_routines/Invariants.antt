use Rattle.std.proofs.Common.{◌≡◌, ◌++◌}
use Rattle.am_demo.specs.Files.{lines_to, routine_line}
use Rattle.am_demo.proofs.files.push_routines.Given as goal

abbrev pub invariant-loop-i : goal.invariant-loop-i
invariant-loop-i l = l.text.items ≡ l.fn.text.items ++ lines_to routine_line l.i
