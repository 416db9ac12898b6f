use Rattle.std.proofs.Common.{◌≡◌, ◌++◌, length, map}
use Rattle.am_plan.specs.Names.{locals}
use Rattle.am_plan.specs.Plan.{local_decl}
use Rattle.am_plan.proofs.declaring.push_locals.Given as goal

-- what was made, with what is left, is all
abbrev pub invariant-loop-rest : goal.invariant-loop-rest
invariant-loop-rest l = l.made ++ map (local_decl l.theory) (locals l.outputs l.answer l.rest) ≡ l.initial.made ++ map (local_decl l.theory) (locals l.outputs l.answer l.names)

abbrev pub decreases-loop-rest : goal.decreases-loop-rest
decreases-loop-rest l = length l.rest
