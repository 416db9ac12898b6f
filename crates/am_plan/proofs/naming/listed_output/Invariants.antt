use Rattle.std.proofs.Common.{◌≡◌, length}
use Rattle.am_plan.specs.Names.{output_for}
use Rattle.am_plan.proofs.naming.listed_output.Given as goal

-- what is left decides
abbrev pub invariant-loop-left : goal.invariant-loop-left
invariant-loop-left l = output_for l.term l.outputs l.answer ≡ output_for l.term l.left l.rest

abbrev pub decreases-loop-left : goal.decreases-loop-left
decreases-loop-left l = length l.left
