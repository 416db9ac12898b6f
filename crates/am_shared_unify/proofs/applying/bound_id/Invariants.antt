use Rattle.std.proofs.Common.{◌≡◌, drop}
use Rattle.am_shared_unify.specs.Sides.{id_for}
use Rattle.am_shared_unify.proofs.applying.bound_id.Given as goal

-- what is left decides
abbrev pub invariant-loop-pair : goal.invariant-loop-pair
invariant-loop-pair l = id_for l.found l.n l.other ≡ id_for (drop l.pair-index l.found) l.n l.other
