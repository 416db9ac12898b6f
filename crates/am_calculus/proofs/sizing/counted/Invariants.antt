use Rattle.std.proofs.Common.{◌≡◌, take}
use Rattle.am_calculus.specs.Sizes.{counted_nodes}
use Rattle.am_calculus.proofs.sizing.counted.Given as goal

-- those of the terms so far
abbrev pub invariant-loop-term : goal.invariant-loop-term
invariant-loop-term l = l.sizes ≡ counted_nodes (take l.term-index l.terms)
