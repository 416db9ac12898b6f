use Rattle.std.proofs.Common.{◌≡◌, ◌+◌, ◌*◌, ◌≤◌, length, map, bit_or}
use Rattle.am_term.specs.Weight.{nodes}
use Rattle.am_simplify.specs.Features.{features, headed_features, joined_features}
use Rattle.am_simplify.proofs.Runs.{terms_size}
use Rattle.am_simplify.proofs.feature_bits.+featuring.Given as goal

-- what was found, and what is left, is all
abbrev pub invariant-headed_features-loop-rest : goal.invariant-headed_features-loop-rest
invariant-headed_features-loop-rest l = record {
  size : terms_size l.rest ≤ terms_size l.terms;
  all : bit_or l.found (joined_features l.here (map features l.rest)) ≡ headed_features l.place l.terms;
}

abbrev pub decreases-term_features : goal.decreases-term_features
decreases-term_features l = 2 * nodes l.term.now

abbrev pub decreases-headed_features : goal.decreases-headed_features
decreases-headed_features l = 2 * terms_size l.terms.now + 1

abbrev pub decreases-headed_features-loop-rest : goal.decreases-headed_features-loop-rest
decreases-headed_features-loop-rest l = length l.rest
