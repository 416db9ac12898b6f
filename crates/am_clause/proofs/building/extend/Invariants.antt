use Rattle.std.proofs.Common.{◌≡◌, ◌++◌, ◌∷◌, [], length}
use Rattle.am_clause.specs.Bounded.{widened}
use Rattle.am_clause.proofs.building.extend.Given as goal

-- what was made, and what is left widened by the literals, is all
abbrev pub invariant-clauses : goal.invariant-clauses
invariant-clauses l = widened l.fn.firsts (l.second ∷ []) ≡ l.made ++ widened l.rest (l.second ∷ [])

abbrev pub decreases-clauses : goal.decreases-clauses
decreases-clauses l = length l.rest
