use Rattle.std.proofs.Common.{◌≡◌, false, take}
use Rattle.am_term.specs.Same.{same_literal}
use Rattle.am_clause.specs.Distinct.{among}
use Rattle.am_clause.proofs.merging.contains.Given as goal

-- none so far is equal
abbrev pub invariant-loop-other : goal.invariant-loop-other
invariant-loop-other l = among same_literal l.literal (take l.other-index l.literals) ≡ false
