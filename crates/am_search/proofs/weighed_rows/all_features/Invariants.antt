-- what was made, and what is left, is all
use Rattle.std.specs.Prelude.{map, length, ◌≡◌, ◌++◌}
use Rattle.am_search.specs.Weights.{row_features}
use Rattle.am_search.proofs.weighed_rows.all_features.Given as goal

abbrev pub invariant-loop-rest : goal.invariant-loop-rest
invariant-loop-rest l = l.found.items ++ map row_features l.rest ≡ map row_features l.rows

abbrev pub decreases-loop-rest : goal.decreases-loop-rest
decreases-loop-rest l = length l.rest
