-- what was made, and what is left, is all
use Rattle.std.specs.Prelude.{length, ◌≡◌, ◌++◌}
use Rattle.am_simplify.specs.Numbering.{with_numbers}
use Rattle.am_search.specs.Candidates.{paras}
use Rattle.am_search.proofs.listing.add_paras.Given as goal

abbrev pub invariant-loop-rest : goal.invariant-loop-rest
invariant-loop-rest l = l.out.items ++ paras l.sig l.way (with_numbers l.j l.rest) (with_numbers l.into.first l.into.literals.now) ≡ l.fn.out.items ++ paras l.sig l.way (with_numbers l.from.first l.from.literals.now) (with_numbers l.into.first l.into.literals.now)

abbrev pub decreases-loop-rest : goal.decreases-loop-rest
decreases-loop-rest l = length l.rest
