use Rattle.std.proofs.Common.{◌≡◌, ◌++◌, length}
use Rattle.am_plan.specs.Plan.{copies}
use Rattle.am_plan.proofs.stating.push_copies.Given as goal

-- what was made, with what is left, is all
abbrev pub invariant-loop-left : goal.invariant-loop-left
invariant-loop-left l = l.made ++ copies l.theory l.diagram l.names.entries l.left l.rest ≡ l.initial.made ++ copies l.theory l.diagram l.names.entries l.diagram.outputs l.answer

abbrev pub decreases-loop-left : goal.decreases-loop-left
decreases-loop-left l = length l.left
