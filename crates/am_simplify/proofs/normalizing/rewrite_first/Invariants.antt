use Rattle.std.proofs.Common.{◌≡◌, length}
use Rattle.am_simplify.specs.NormalStep.{rewrite_first, rewrite_in}
use Rattle.am_simplify.specs.Numbering.{find_map, with_numbers}
use Rattle.am_simplify.specs.Standing.{AreLiterals}
use Rattle.am_simplify.proofs.normalizing.rewrite_first.Given as goal

-- what is left stands where it is looked at, and decides
abbrev pub invariant-loop-rest : goal.invariant-loop-rest
invariant-loop-rest l = record {
  stand : AreLiterals l.clause l.i l.rest;
  decides : rewrite_first l.ctx.sig.now l.ctx.ins.now l.units l.clause ≡ find_map (rewrite_in l.ctx.sig.now l.ctx.ins.now l.units l.clause) (with_numbers l.i l.rest);
}

abbrev pub decreases-loop-rest : goal.decreases-loop-rest
decreases-loop-rest l = length l.rest
