use Rattle.std.proofs.Common.{◌≡◌, length}
use Rattle.am_simplify.specs.Reasons.{subsumer}
use Rattle.am_simplify.proofs.dropping.first_subsumer.Given as goal

-- what is left decides
abbrev pub invariant-loop-rest : goal.invariant-loop-rest
invariant-loop-rest l = subsumer l.ctx.sig.now l.ctx.ins.now l.kept l.clause ≡ subsumer l.ctx.sig.now l.ctx.ins.now l.rest l.clause

abbrev pub decreases-loop-rest : goal.decreases-loop-rest
decreases-loop-rest l = length l.rest
