use Rattle.std.proofs.Common.{◌≡◌, length, ◌+◌}
use Rattle.am_exec.specs.States.{inputs_held}
use Rattle.am_exec.specs.Terms.{stated as run_on}
use Rattle.am_exec.proofs.running.stated.Given as goal

-- what was made, with what is left, is all
abbrev pub invariant-loop-rest : goal.invariant-loop-rest
invariant-loop-rest l = (run_on l.scene.theory.now l.scene.diagram.now l.scene.unit.now l.item l.store l.rest ≡ run_on l.scene.theory.now l.scene.diagram.now l.scene.unit.now (length l.scene.unit.now.declarations + 2) (inputs_held l.scene.diagram.now.inputs) l.scene.unit.now.statements) × (l.item + length l.rest ≡ length l.scene.unit.now.declarations + 2 + length l.scene.unit.now.statements)

abbrev pub decreases-loop-rest : goal.decreases-loop-rest
decreases-loop-rest l = length l.rest
