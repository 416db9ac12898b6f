use Rattle.std.proofs.Common.{◌≡◌, length}
use Rattle.std.specs.List.{list_any}
use Rattle.am_simplify.specs.Reasons.{are_heavy}
use Rattle.am_simplify.proofs.dropping.heavy_lists.Given as goal

-- what is left decides
abbrev pub invariant-loop-rest : goal.invariant-loop-rest
invariant-loop-rest l = list_any (are_heavy l.most) l.lists ≡ list_any (are_heavy l.most) l.rest

abbrev pub decreases-loop-rest : goal.decreases-loop-rest
decreases-loop-rest l = length l.rest
