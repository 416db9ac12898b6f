-- what was made, and what is left, is all
use Rattle.std.specs.Prelude.{length, ◌≡◌, ◌++◌}
use Rattle.am_simplify.specs.Numbering.{with_numbers}
use Rattle.am_search.specs.Candidates.{resolves}
use Rattle.am_search.proofs.listing.add_resolves.Given as goal

abbrev pub invariant-loop-rest : goal.invariant-loop-rest
invariant-loop-rest l = l.out.items ++ resolves (with_numbers l.i l.rest) (with_numbers l.start l.others) ≡ l.fn.out.items ++ resolves (with_numbers l.first l.literals) (with_numbers l.start l.others)

abbrev pub decreases-loop-rest : goal.decreases-loop-rest
decreases-loop-rest l = length l.rest
