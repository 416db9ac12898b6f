use Rattle.std.proofs.Common.{◌≡◌, take}
use Rattle.am_clause.proofs.copying.copy_literals.Given as goal

-- a copy of the literals so far
abbrev pub invariant-loop-literal : goal.invariant-loop-literal
invariant-loop-literal l = l.made ≡ take l.literal-index l.literals
