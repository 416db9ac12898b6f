use Rattle.std.proofs.Common.{◌≡◌, false, take}
use Rattle.std.specs.List.{list_any}
use Rattle.am_clause.specs.Tautology.{opposite}
use Rattle.am_clause.proofs.tautology.has_opposite.Given as goal

-- none so far is opposite
abbrev pub invariant-loop-other : goal.invariant-loop-other
invariant-loop-other l = list_any (opposite l.literal) (take l.other-index l.literals) ≡ false
