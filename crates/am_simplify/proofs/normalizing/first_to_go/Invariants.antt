use Rattle.std.proofs.Common.{◌≡◌, length, find, option_map}
use Rattle.am_simplify.specs.NormalStep.{first_to_go, goes}
use Rattle.am_simplify.specs.Numbering.{with_numbers, the_number}
use Rattle.am_simplify.proofs.normalizing.first_to_go.Given as goal

-- what is left decides
abbrev pub invariant-loop-rest : goal.invariant-loop-rest
invariant-loop-rest l = first_to_go l.literals ≡ option_map the_number (find goes (with_numbers l.i l.rest))

abbrev pub decreases-loop-rest : goal.decreases-loop-rest
decreases-loop-rest l = length l.rest
