use Rattle.std.proofs.Common.{◌≡◌, length}
use Rattle.am_diagram.specs.Listed.{entry_names}
use Rattle.am_exec.specs.Terms.{terms_held}
use Rattle.am_exec.proofs.Answering.{in_front}
use Rattle.am_exec.proofs.running.outputs_held.Given as goal

-- what is left decides
abbrev pub invariant-loop-rest : goal.invariant-loop-rest
invariant-loop-rest l = in_front l.made (terms_held l.store (entry_names l.rest)) ≡ terms_held l.store (entry_names l.diagram.outputs)

abbrev pub decreases-loop-rest : goal.decreases-loop-rest
decreases-loop-rest l = length l.rest
