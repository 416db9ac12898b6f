use Rattle.std.proofs.Common.{◌↔◌, IsTrue, subst, sym}
use Rattle.am_simplify.specs.Subsumption.{Subsumes}
use Rattle.am_simplify.proofs.Subsumed.{law}
use Rattle.am_simplify.proofs.subsuming.subsumes.Goals as goal

pub returns-clause-meaning : goal.returns-clause-meaning
returns-clause-meaning c numbered sorted =
    subst (λ b. IsTrue b ↔ Subsumes c.args.ctx.now.sig.now c.args.ctx.now.ins.now c.args.d.now c.args.c.now) (sym c.covers_all.ensures)
    (law c.args.ctx.now.sig.now c.args.ctx.now.ins.now c.args.d.now numbered sorted c.args.c.now)
