use Rattle.std.proofs.Common.{◌≡◌, take}
use Rattle.am_term.proofs.comparing.+comparing.Given as goal

-- what was compared is the same
abbrev pub invariant-same_terms-loop-i : goal.invariant-same_terms-loop-i
invariant-same_terms-loop-i l = take l.i l.a ≡ take l.i l.b
