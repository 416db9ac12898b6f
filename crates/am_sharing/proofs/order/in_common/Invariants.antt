use Rattle.std.proofs.Common.{◌≡◌, ◌+◌, drop}
use Rattle.am_order.specs.Parts.{common_front}
use Rattle.am_sharing.specs.Terms.{terms_at}
use Rattle.am_sharing.proofs.order.in_common.Given as goal

-- the terms so far, and what is left
abbrev pub invariant-loop-i : goal.invariant-loop-i
invariant-loop-i l =
    common_front (terms_at l.bank l.terms) (terms_at l.bank l.others) ≡ common_front (terms_at l.bank (drop l.i l.terms)) (terms_at l.bank (drop l.i l.others)) + l.i
