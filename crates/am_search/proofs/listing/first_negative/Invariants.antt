-- what is left decides
use Rattle.std.specs.Prelude.{find, length, ◌≡◌}
use Rattle.am_simplify.specs.Numbering.{with_numbers}
use Rattle.am_search.specs.Candidates.{is_negative}
use Rattle.am_search.proofs.listing.first_negative.Given as goal

abbrev pub invariant-loop-rest : goal.invariant-loop-rest
invariant-loop-rest l = find is_negative (with_numbers 1 l.literals) ≡ find is_negative (with_numbers l.n l.rest)

abbrev pub decreases-loop-rest : goal.decreases-loop-rest
decreases-loop-rest l = length l.rest
