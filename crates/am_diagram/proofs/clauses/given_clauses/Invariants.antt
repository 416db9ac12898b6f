use Rattle.std.proofs.Common.{◌≡◌, map, take}
use Rattle.am_clause.specs.Goals.{given_clause}
use Rattle.am_diagram.proofs.clauses.given_clauses.Given as goal

abbrev pub invariant-loop-given : goal.invariant-loop-given
invariant-loop-given l = l.made ≡ map given_clause (take l.given-index l.givens)
