use Rattle.std.proofs.Common.{◌≡◌, ◌++◌, take}
use Rattle.am_clause.specs.Bounded.{widened_by}
use Rattle.am_clause.proofs.building.follow.Given as goal

-- the first clause widened by each so far
abbrev pub invariant-loop-second : goal.invariant-loop-second
invariant-loop-second l = l.made ≡ l.initial.made ++ widened_by l.first (take l.second-index l.seconds)
