use Rattle.std.proofs.Common.{◌≡◌, ◌++◌, length}
use Rattle.am_log.specs.Unwrapped.{unwrapped}
use Rattle.am_log.proofs.groups.unwrapped.Given as goal

-- what was taken and what is left are all
abbrev pub invariant-loop-rest : goal.invariant-loop-rest
invariant-loop-rest l = unwrapped 2 l.group ≡ l.text.items ++ unwrapped l.skip l.rest

abbrev pub decreases-loop-rest : goal.decreases-loop-rest
decreases-loop-rest l = length l.rest
