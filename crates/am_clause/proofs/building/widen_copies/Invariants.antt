use Rattle.std.proofs.Common.{◌≡◌, take}
use Rattle.am_clause.specs.Bounded.{widened}
use Rattle.am_clause.proofs.building.widen_copies.Given as goal

-- the clauses so far, widened by each
abbrev pub invariant-loop-first : goal.invariant-loop-first
invariant-loop-first l = l.made ≡ widened (take l.first-index l.firsts) l.seconds
