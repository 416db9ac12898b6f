use Rattle.std.proofs.Common.{◌+◌, ◌-◌, length}
use Rattle.am_sharing.specs.SortTable.{IsSortTable}
use Rattle.am_sharing.proofs.sorting.fill.Given as goal

-- the table so far
abbrev pub invariant-loop-id : goal.invariant-loop-id
invariant-loop-id l = IsSortTable l.ctx.sig.now l.ctx.ins.now l.bank l.table

abbrev pub decreases-loop-id : goal.decreases-loop-id
decreases-loop-id l = (l.id.0 + 1) - length l.table
