use Rattle.std.proofs.Common.{◌≡◌, ◌++◌, length}
use Rattle.am_sharing.specs.Pairs.{insert_id}
use Rattle.am_sharing.proofs.binding.inserted.Given as goal

-- what was passed has smaller numbers
abbrev pub invariant-loop-rest : goal.invariant-loop-rest
invariant-loop-rest l = insert_id l.n l.id l.found ≡ l.made ++ insert_id l.n l.id l.rest

abbrev pub decreases-loop-rest : goal.decreases-loop-rest
decreases-loop-rest l = length l.rest
