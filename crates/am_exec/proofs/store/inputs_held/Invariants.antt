use Rattle.std.proofs.Common.{◌≡◌, length, ◌++◌, ◌+◌}
use Rattle.am_exec.specs.States.{inputs_held_from, inputs_held}
use Rattle.am_exec.proofs.store.inputs_held.Given as goal

-- what was made, with what is left, is all
abbrev pub invariant-loop-rest : goal.invariant-loop-rest
invariant-loop-rest l = (l.store ++ inputs_held_from l.k l.rest ≡ inputs_held l.diagram.inputs) × (l.k + length l.rest ≡ length l.diagram.inputs)

abbrev pub decreases-loop-rest : goal.decreases-loop-rest
decreases-loop-rest l = length l.rest
