use Rattle.std.proofs.Common.{◌≡◌, ◌+◌, length}
use Rattle.std.specs.List.{prefix_len}
use Rattle.am_log.specs.Groups.{is_inside}
use Rattle.am_log.proofs.reading.line_length.Given as goal

-- what was counted and what is left are all
abbrev pub invariant-loop-rest : goal.invariant-loop-rest
invariant-loop-rest l = (prefix_len is_inside l.bytes ≡ l.count + prefix_len is_inside l.rest) × (length l.bytes ≡ l.count + length l.rest)

abbrev pub decreases-loop-rest : goal.decreases-loop-rest
decreases-loop-rest l = length l.rest
