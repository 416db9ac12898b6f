use Rattle.std.proofs.Common.{◌≡◌, take}
use Rattle.am_rules.specs.Solving.{all_shifted}
use Rattle.am_rules.proofs.asking.+shifting.Given as goal

-- the terms so far
abbrev pub invariant-shift_all-loop-term : goal.invariant-shift_all-loop-term
invariant-shift_all-loop-term l = l.made ≡ all_shifted l.k (take l.term-index l.terms)
