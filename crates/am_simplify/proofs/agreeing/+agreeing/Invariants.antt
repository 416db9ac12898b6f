use Rattle.std.proofs.Common.{◌≡◌, ◌+◌, ◌*◌, ◌≤◌, length}
use Rattle.am_term.specs.Weight.{nodes}
use Rattle.am_simplify.specs.Agreement.{agree_all}
use Rattle.am_simplify.proofs.Runs.{terms_size}
use Rattle.am_simplify.proofs.agreeing.+agreeing.Given as goal

-- those that are left decide
abbrev pub invariant-agrees_all-loop-rest : goal.invariant-agrees_all-loop-rest
invariant-agrees_all-loop-rest l = record {
  size : terms_size l.rest ≤ terms_size l.patterns;
  decides : agree_all l.patterns l.terms ≡ agree_all l.rest l.others;
}

abbrev pub decreases-agrees : goal.decreases-agrees
decreases-agrees l = 2 * nodes l.pattern.now

abbrev pub decreases-agrees_all : goal.decreases-agrees_all
decreases-agrees_all l = 2 * terms_size l.patterns.now + 1

abbrev pub decreases-agrees_all-loop-rest : goal.decreases-agrees_all-loop-rest
decreases-agrees_all-loop-rest l = length l.rest
