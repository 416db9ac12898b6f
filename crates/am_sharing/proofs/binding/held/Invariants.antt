use Rattle.std.proofs.Common.{◌≡◌, drop}
use Rattle.am_sharing.specs.Pairs.{held_id}
use Rattle.am_sharing.proofs.binding.held.Given as goal

-- what is left decides
abbrev pub invariant-loop-pair : goal.invariant-loop-pair
invariant-loop-pair l = held_id l.found l.n l.id.0 ≡ held_id (drop l.pair-index l.found) l.n l.id.0
