-- what was made, and what is left, is all
use Rattle.std.specs.Prelude.{length, ◌≡◌, ◌++◌}
use Rattle.am_simplify.specs.Numbering.{with_numbers}
use Rattle.am_search.specs.Candidates.{paras_side}
use Rattle.am_search.proofs.listing.add_paras_side.Given as goal

abbrev pub invariant-loop-rest : goal.invariant-loop-rest
invariant-loop-rest l = l.out.items ++ paras_side l.way (with_numbers l.i l.rest) l.j l.side ≡ l.fn.out.items ++ paras_side l.way (with_numbers l.first l.literals) l.j l.side

abbrev pub decreases-loop-rest : goal.decreases-loop-rest
decreases-loop-rest l = length l.rest
