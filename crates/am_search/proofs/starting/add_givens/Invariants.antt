-- what was made, and what is left, is all
use Rattle.std.specs.Prelude.{◌≡◌, ◌++◌, length}
use Rattle.am_search.specs.Starting.{given_rows}
use Rattle.am_search.proofs.starting.add_givens.Given as goal

abbrev pub invariant-loop-rest : goal.invariant-loop-rest
invariant-loop-rest l = l.out.items ++ given_rows l.k l.rest ≡ l.fn.out.items ++ given_rows 1 l.givens

abbrev pub decreases-loop-rest : goal.decreases-loop-rest
decreases-loop-rest l = length l.rest
