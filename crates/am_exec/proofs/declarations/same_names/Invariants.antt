use Rattle.std.proofs.Common.{◌≡◌, length}
use Rattle.am_diagram.specs.Listed.{entry_names}
use Rattle.am_exec.specs.ItemFaults.{same_names}
use Rattle.am_exec.proofs.declarations.same_names.Given as goal

-- what is left decides
abbrev pub invariant-loop-left : goal.invariant-loop-left
invariant-loop-left l = same_names l.left (entry_names l.rest) ≡ same_names l.names (entry_names l.list)

abbrev pub decreases-loop-left : goal.decreases-loop-left
decreases-loop-left l = length l.left
