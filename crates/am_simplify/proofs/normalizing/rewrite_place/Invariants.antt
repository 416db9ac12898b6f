use Rattle.std.proofs.Common.{◌≡◌, length}
use Rattle.am_simplify.specs.Frames.{path_of}
use Rattle.am_simplify.specs.NormalStep.{rewrite_at}
use Rattle.am_simplify.proofs.normalizing.rewrite_place.Given as goal

-- what is left decides
abbrev pub invariant-loop-rest : goal.invariant-loop-rest
invariant-loop-rest l = rewrite_at l.ctx.sig.now l.ctx.ins.now l.units l.clause l.i (path_of l.path) ≡ rewrite_at l.ctx.sig.now l.ctx.ins.now l.rest l.clause l.i (path_of l.path)

abbrev pub decreases-loop-rest : goal.decreases-loop-rest
decreases-loop-rest l = length l.rest
