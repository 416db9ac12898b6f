-- what is left decides
use Rattle.std.specs.Prelude.{◌≡◌, length}
use Rattle.am_search.specs.Outcomes.{last_from, last_number}
use Rattle.am_search.proofs.entries.last_number.Given as goal

abbrev pub invariant-loop-rest : goal.invariant-loop-rest
invariant-loop-rest l = last_from l.number l.rest ≡ last_number l.fates

abbrev pub decreases-loop-rest : goal.decreases-loop-rest
decreases-loop-rest l = length l.rest
