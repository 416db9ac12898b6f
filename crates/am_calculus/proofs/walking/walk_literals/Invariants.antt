use Rattle.std.proofs.Common.{◌≡◌, Some, take}
use Rattle.am_clause.specs.Variables.{in_literals}
use Rattle.am_clause.specs.Walks.{walk}
use Rattle.am_calculus.proofs.walking.walk_literals.Given as goal

-- the walk over the literals so far
abbrev pub invariant-loop-literal : goal.invariant-loop-literal
invariant-loop-literal l = walk l.initial.made (in_literals (take l.literal-index l.literals)) ≡ Some l.made
