use Rattle.std.proofs.Common.{◌≡◌, ◌++◌, length}
use Rattle.std.specs.List.{flat_map}
use Rattle.am_plan.specs.Calls.{made_by}
use Rattle.am_plan.specs.Numbering.{named_from}
use Rattle.am_plan.proofs.naming.named.Given as goal

-- what was named, with what is left, is all
abbrev pub invariant-loop-rest : goal.invariant-loop-rest
invariant-loop-rest l = l.names ++ named_from l.k l.outputs l.answer (flat_map (made_by l.theory) l.rest) ≡ named_from 1 l.outputs l.answer (flat_map (made_by l.theory) l.calls)

abbrev pub decreases-loop-rest : goal.decreases-loop-rest
decreases-loop-rest l = length l.rest
