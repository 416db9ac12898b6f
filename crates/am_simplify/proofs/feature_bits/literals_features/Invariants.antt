use Rattle.std.proofs.Common.{◌≡◌, length, bit_or}
use Rattle.am_simplify.specs.Features.{literals_features}
use Rattle.am_simplify.proofs.feature_bits.literals_features.Given as goal

-- what was found, and what is left, is all
abbrev pub invariant-loop-rest : goal.invariant-loop-rest
invariant-loop-rest l = bit_or l.found (literals_features l.rest) ≡ literals_features l.literals

abbrev pub decreases-loop-rest : goal.decreases-loop-rest
decreases-loop-rest l = length l.rest
