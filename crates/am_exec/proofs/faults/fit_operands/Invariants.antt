use Rattle.std.proofs.Common.{◌≡◌, length}
use Rattle.am_exec.specs.ItemFaults.{fit_operands}
use Rattle.am_exec.proofs.faults.fit_operands.Given as goal

-- what is left decides
abbrev pub invariant-loop-left : goal.invariant-loop-left
invariant-loop-left l = fit_operands l.scene.theory.now l.scene.ins.now l.store l.places l.operands ≡ fit_operands l.scene.theory.now l.scene.ins.now l.store l.left l.rest

abbrev pub decreases-loop-left : goal.decreases-loop-left
decreases-loop-left l = length l.left
