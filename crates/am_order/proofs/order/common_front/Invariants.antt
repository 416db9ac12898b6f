use Rattle.std.proofs.Common.{◌≡◌, ◌+◌, drop}
use Rattle.am_order.specs.Parts.{common_front}
use Rattle.am_order.proofs.order.common_front.Given as goal

-- the terms so far, and what is left
abbrev pub invariant-loop-i : goal.invariant-loop-i
invariant-loop-i l = common_front l.terms l.others ≡ common_front (drop l.i l.terms) (drop l.i l.others) + l.i
