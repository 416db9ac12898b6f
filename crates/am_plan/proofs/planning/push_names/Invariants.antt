use Rattle.std.proofs.Common.{◌≡◌, ◌++◌, length}
use Rattle.am_plan.proofs.planning.push_names.Given as goal
use Rattle.am_diagram.specs.Listed.{entry_names}

-- what was made, with what is left, is all
abbrev pub invariant-loop-rest : goal.invariant-loop-rest
invariant-loop-rest l = l.names ++ entry_names l.rest ≡ l.initial.names ++ entry_names l.entries

abbrev pub decreases-loop-rest : goal.decreases-loop-rest
decreases-loop-rest l = length l.rest
