-- what was made, and what is left, is all
use Rattle.std.specs.Prelude.{length, ◌≡◌, ◌++◌}
use Rattle.am_simplify.specs.Numbering.{with_numbers}
use Rattle.am_search.specs.Candidates.{resolves_at}
use Rattle.am_search.proofs.listing.add_resolves_at.Given as goal

abbrev pub invariant-loop-rest : goal.invariant-loop-rest
invariant-loop-rest l = l.out.items ++ resolves_at (with_numbers l.j l.rest) (l.i, l.literal) ≡ l.fn.out.items ++ resolves_at (with_numbers l.start l.others) (l.i, l.literal)

abbrev pub decreases-loop-rest : goal.decreases-loop-rest
decreases-loop-rest l = length l.rest
