use Rattle.std.proofs.Common.{◌≡◌, length}
use Rattle.am_theory.specs.Contents.{contents}
use Rattle.am_theory.specs.Additions.{with_outputs}
use Rattle.am_theory.proofs.adding.add_outputs.Given as goal

-- what is left, beside what was added, is all
abbrev pub invariant-loop-rest : goal.invariant-loop-rest
invariant-loop-rest l = with_outputs (contents l.tables.theory) l.inputs l.rest ≡ with_outputs (contents l.fn.tables.theory) l.inputs l.outputs

abbrev pub decreases-loop-rest : goal.decreases-loop-rest
decreases-loop-rest l = length l.rest
