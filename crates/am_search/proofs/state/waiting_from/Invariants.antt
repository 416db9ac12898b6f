-- what was found, and what is left, is all
use Rattle.std.specs.Prelude.{◌++◌, ◌+◌, ◌≡◌, length}
use Rattle.am_search.specs.Weights.{weighed_from}
use Rattle.am_search.proofs.state.waiting_from.Given as goal

abbrev pub invariant-loop-rest : goal.invariant-loop-rest
invariant-loop-rest l = l.waits.items ++ weighed_from l.most l.fates l.choices (l.number + 1) l.rest ≡ weighed_from l.most l.fates l.choices 1 l.weights

abbrev pub decreases-loop-rest : goal.decreases-loop-rest
decreases-loop-rest l = length l.rest
