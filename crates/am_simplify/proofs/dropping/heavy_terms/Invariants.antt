use Rattle.std.proofs.Common.{◌≡◌, length}
use Rattle.am_simplify.specs.Reasons.{are_heavy}
use Rattle.am_simplify.proofs.dropping.heavy_terms.Given as goal

-- what is left decides
abbrev pub invariant-loop-rest : goal.invariant-loop-rest
invariant-loop-rest l = are_heavy l.most l.terms ≡ are_heavy l.most l.rest

abbrev pub decreases-loop-rest : goal.decreases-loop-rest
decreases-loop-rest l = length l.rest
