use Rattle.std.proofs.Common.{◌≡◌, ◌++◌, length}
use Rattle.std.specs.List.{flat_map}
use Rattle.am_plan.specs.Plan.{statement_of}
use Rattle.am_plan.proofs.stating.statements.Given as goal

-- what was made, with what is left, is all
abbrev pub invariant-loop-rest : goal.invariant-loop-rest
invariant-loop-rest l = l.made ++ flat_map (statement_of l.theory l.diagram l.names.entries) l.rest ≡ flat_map (statement_of l.theory l.diagram l.names.entries) l.calls

abbrev pub decreases-loop-rest : goal.decreases-loop-rest
decreases-loop-rest l = length l.rest
