use Rattle.std.proofs.Common.{◌≡◌, ◌++◌, length}
use Rattle.am_diagram.specs.Drafts.{inputs_from}
use Rattle.am_diagram.proofs.scopes.with_inputs.Given as goal

-- what was made, and what is left to make, is all
abbrev pub invariant-loop-rest : goal.invariant-loop-rest
invariant-loop-rest l = l.bound.entries ++ inputs_from l.number l.rest ≡ inputs_from 0 l.inputs

abbrev pub decreases-loop-rest : goal.decreases-loop-rest
decreases-loop-rest l = length l.rest
