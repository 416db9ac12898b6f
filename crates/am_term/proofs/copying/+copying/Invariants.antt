use Rattle.std.proofs.Common.{◌≡◌, take}
use Rattle.am_term.proofs.copying.+copying.Given as goal

-- a copy of the terms so far
abbrev pub invariant-copies-loop-term : goal.invariant-copies-loop-term
invariant-copies-loop-term l = l.made ≡ take l.term-index l.terms
