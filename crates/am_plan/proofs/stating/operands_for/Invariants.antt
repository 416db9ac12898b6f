use Rattle.std.proofs.Common.{◌≡◌, ◌++◌, length, map}
use Rattle.am_plan.specs.Plan.{operand_for}
use Rattle.am_plan.proofs.stating.operands_for.Given as goal

-- what was made, with what is left, is all
abbrev pub invariant-loop-rest : goal.invariant-loop-rest
invariant-loop-rest l = l.made ++ map (operand_for l.theory l.diagram l.names.entries) l.rest ≡ map (operand_for l.theory l.diagram l.names.entries) l.terms

abbrev pub decreases-loop-rest : goal.decreases-loop-rest
decreases-loop-rest l = length l.rest
