use Rattle.std.proofs.Common.{◌≡◌, length}
use Rattle.am_exec.specs.Run.{sort_listed}
use Rattle.am_exec.proofs.lookups.sort_listed.Given as goal

-- what is left decides
abbrev pub invariant-loop-rest : goal.invariant-loop-rest
invariant-loop-rest l = sort_listed l.name l.list ≡ sort_listed l.name l.rest

abbrev pub decreases-loop-rest : goal.decreases-loop-rest
decreases-loop-rest l = length l.rest
