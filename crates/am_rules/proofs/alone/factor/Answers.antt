use Rattle.std.proofs.Common.{◌∙◌, sym}
use Rattle.am_clause.specs.Rules.{factor}
use Rattle.am_rules.specs.Alone.{factoring}
use Rattle.am_rules.specs.Conclusions.{factored, factored-is}
use Rattle.am_rules.specs.Inference.{AnswersOne}
use Rattle.am_rules.proofs.Concluded.{not-suited, answered, factored-answers}
use Rattle.am_rules.proofs.alone.factor.Goals as goal

pub returns-then-not-is_suited-clause-inference : goal.returns-then-not-is_suited-clause-inference
returns-then-not-is_suited-clause-inference c a s = not-suited (AnswersOne c.args.ctx.now.sig.now c.args.ctx.now.ins.now (factor c.args.i c.args.j) c.args.p.now) ((factor c.args.i c.args.j).suits c.args.p.now) (factoring c.args.ctx.now.sig.now c.args.ctx.now.ins.now c.args.p.now c.args.i c.args.j) (factored c.args.ctx.now.sig.now c.args.ctx.now.ins.now c.args.p.now c.args.i c.args.j)
    (factored-is c.args.ctx.now.sig.now c.args.ctx.now.ins.now c.args.p.now c.args.i c.args.j) (sym c.suits_factor-is_suited.ensures ∙ c.if-not-is_suited.true) (factored-answers c.args.ctx.now.sig.now c.args.ctx.now.ins.now c.args.p.now a s c.args.i c.args.j)

pub returns-clause-inference : goal.returns-clause-inference
returns-clause-inference c a s = answered (AnswersOne c.args.ctx.now.sig.now c.args.ctx.now.ins.now (factor c.args.i c.args.j) c.args.p.now) ((factor c.args.i c.args.j).suits c.args.p.now) (factoring c.args.ctx.now.sig.now c.args.ctx.now.ins.now c.args.p.now c.args.i c.args.j) (factored c.args.ctx.now.sig.now c.args.ctx.now.ins.now c.args.p.now c.args.i c.args.j)
    (factored-is c.args.ctx.now.sig.now c.args.ctx.now.ins.now c.args.p.now c.args.i c.args.j) (sym c.suits_factor-is_suited.ensures ∙ c.if-not-is_suited.false) (factored-answers c.args.ctx.now.sig.now c.args.ctx.now.ins.now c.args.p.now a s c.args.i c.args.j) c.factoring.result c.factoring.ensures
