use Rattle.am_unify.specs.Size.{size}
use Rattle.am_unify.proofs.Unified.{IsLeft}
use Rattle.am_unify.proofs.solving.next_binding.Given as goal

-- what is left has the same answer
abbrev pub invariant-opening : goal.invariant-opening
invariant-opening l = IsLeft l.ctx.sig.now l.ctx.ins.now l.fn.pairs l.todo

abbrev pub decreases-opening : goal.decreases-opening
decreases-opening l = size l.todo
