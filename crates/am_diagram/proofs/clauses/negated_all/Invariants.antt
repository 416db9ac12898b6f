use Rattle.std.proofs.Common.{◌≡◌, map, take}
use Rattle.am_clause.specs.Goals.{negated}
use Rattle.am_diagram.proofs.clauses.negated_all.Given as goal

abbrev pub invariant-loop-literal : goal.invariant-loop-literal
invariant-loop-literal l = l.made ≡ map negated (take l.literal-index l.literals)
