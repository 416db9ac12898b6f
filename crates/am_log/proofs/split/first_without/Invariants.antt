use Rattle.std.proofs.Common.{◌≡◌, ◌+◌, true, length}
use Rattle.am_log.specs.Split.{proof_bytes}
use Rattle.am_log.proofs.split.first_without.Given as goal

-- what was counted and what is left are all
abbrev pub invariant-loop-rest : goal.invariant-loop-rest
invariant-loop-rest l = (proof_bytes true l.text ≡ l.count + proof_bytes l.starts l.rest) × (length l.text ≡ l.count + length l.rest)

abbrev pub decreases-loop-rest : goal.decreases-loop-rest
decreases-loop-rest l = length l.rest
