use Rattle.std.proofs.Common.{◌≡◌, ◌++◌, length}
use Rattle.am_diagram.proofs.looking.sort_names.Given as goal

-- the names so far, and those that are left, are all
abbrev pub invariant-loop-rest : goal.invariant-loop-rest
invariant-loop-rest l = l.table.names ++ l.rest ≡ l.sorts

abbrev pub decreases-loop-rest : goal.decreases-loop-rest
decreases-loop-rest l = length l.rest
