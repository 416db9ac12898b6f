use Rattle.am_unify.specs.Size.{size}
use Rattle.am_sharing.specs.SortTable.{IsSortTable}
use Rattle.am_shared_unify.specs.Sides.{term_sides}
use Rattle.am_shared_unify.proofs.Solved.{AreLeft}
use Rattle.am_shared_unify.proofs.solving.next_binding.Given as goal

-- what is left has the same answer
abbrev pub invariant-opening : goal.invariant-opening
invariant-opening l =
    AreLeft l.ctx.sig.now l.ctx.ins.now l.bank l.fn.pairs l.todo
    × IsSortTable l.ctx.sig.now l.ctx.ins.now l.bank l.table

abbrev pub decreases-opening : goal.decreases-opening
decreases-opening l = size (term_sides l.bank l.todo)
