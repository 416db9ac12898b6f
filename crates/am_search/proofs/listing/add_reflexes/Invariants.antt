-- what was made, and what is left, is all
use Rattle.std.specs.Prelude.{length, ◌≡◌, ◌++◌}
use Rattle.am_simplify.specs.Numbering.{with_numbers}
use Rattle.am_search.specs.Candidates.{reflexes}
use Rattle.am_search.proofs.listing.add_reflexes.Given as goal

abbrev pub invariant-loop-rest : goal.invariant-loop-rest
invariant-loop-rest l = l.out.items ++ reflexes (with_numbers l.i l.rest) ≡ l.fn.out.items ++ reflexes (with_numbers l.first l.literals)

abbrev pub decreases-loop-rest : goal.decreases-loop-rest
decreases-loop-rest l = length l.rest
