-- what was made, and what is left, is all
use Rattle.std.specs.Prelude.{map, length, ◌≡◌, ◌++◌}
use Rattle.am_search.specs.Weights.{row_weight}
use Rattle.am_search.proofs.weighed_rows.weights.Given as goal

abbrev pub invariant-loop-rest : goal.invariant-loop-rest
invariant-loop-rest l = l.found.items ++ map row_weight l.rest ≡ map row_weight l.rows

abbrev pub decreases-loop-rest : goal.decreases-loop-rest
decreases-loop-rest l = length l.rest
