-- what was made, and what is left, is all
use Rattle.std.specs.Prelude.{length, ◌≡◌, ◌++◌}
use Rattle.am_simplify.specs.Numbering.{with_numbers}
use Rattle.am_search.specs.Candidates.{factors}
use Rattle.am_search.proofs.listing.add_factors.Given as goal

abbrev pub invariant-loop-rest : goal.invariant-loop-rest
invariant-loop-rest l = l.out.items ++ factors (with_numbers 1 l.all) (with_numbers l.i l.rest) ≡ l.fn.out.items ++ factors (with_numbers 1 l.all) (with_numbers l.first l.literals)

abbrev pub decreases-loop-rest : goal.decreases-loop-rest
decreases-loop-rest l = length l.rest
