-- what is left decides
use Rattle.std.specs.Prelude.{◌+◌, ◌≡◌, ℕ, length, map}
use Rattle.std.specs.List.{filter}
use Rattle.am_search.specs.Members.{shown, is_empty, is_waiting, numbered_rows, waiting}
use Rattle.am_search.proofs.state.any_waits.Given as goal

abbrev pub invariant-loop-rest : goal.invariant-loop-rest
invariant-loop-rest l = (most : ℕ) → is_empty (map (shown most) (filter (is_waiting l.fates l.choices) (numbered_rows (l.number + 1) l.rest))) ≡ is_empty (waiting most l.rows l.fates l.choices)

abbrev pub decreases-loop-rest : goal.decreases-loop-rest
decreases-loop-rest l = length l.rest
