use Rattle.std.proofs.Common.{◌≡◌, false, take}
use Rattle.am_clause.proofs.Opposites.{opposites_to}
use Rattle.am_clause.proofs.tautology.has_opposites.Given as goal

-- no literal so far has an opposite
abbrev pub invariant-loop-literal : goal.invariant-loop-literal
invariant-loop-literal l = opposites_to l.literals (take l.literal-index l.literals) ≡ false
