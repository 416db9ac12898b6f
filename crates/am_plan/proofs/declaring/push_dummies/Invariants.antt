use Rattle.std.proofs.Common.{◌≡◌, ◌++◌, length, map}
use Rattle.am_plan.specs.Plan.{dummy_decl}
use Rattle.am_plan.proofs.declaring.push_dummies.Given as goal

-- what was made, with what is left, is all
abbrev pub invariant-loop-rest : goal.invariant-loop-rest
invariant-loop-rest l = l.made ++ map (dummy_decl l.theory) l.rest ≡ l.initial.made ++ map (dummy_decl l.theory) l.dummies

abbrev pub decreases-loop-rest : goal.decreases-loop-rest
decreases-loop-rest l = length l.rest
