-- what was made, and what is left, is all
use Rattle.std.specs.Prelude.{length, ◌≡◌, ◌++◌}
use Rattle.std.specs.List.{flat_map}
use Rattle.am_simplify.specs.Numbering.{with_numbers}
use Rattle.am_search.specs.Candidates.{paras_side}
use Rattle.am_search.proofs.listing.add_paras_at.Given as goal

abbrev pub invariant-loop-rest : goal.invariant-loop-rest
invariant-loop-rest l = l.out.items ++ flat_map (paras_side l.way (with_numbers l.first l.literals) l.j) l.rest ≡ l.fn.out.items ++ flat_map (paras_side l.way (with_numbers l.first l.literals) l.j) l.sides

abbrev pub decreases-loop-rest : goal.decreases-loop-rest
decreases-loop-rest l = length l.rest
