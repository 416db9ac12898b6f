use Rattle.std.proofs.Common.{◌∙◌, sym}
use Rattle.am_clause.specs.Rules.{reflex}
use Rattle.am_rules.specs.Alone.{reflexion}
use Rattle.am_rules.specs.Conclusions.{reflexed, reflexed-is}
use Rattle.am_rules.specs.Inference.{AnswersOne}
use Rattle.am_rules.proofs.Concluded.{not-suited, answered, reflexed-answers}
use Rattle.am_rules.proofs.alone.reflex.Goals as goal

pub returns-then-not-is_suited-clause-inference : goal.returns-then-not-is_suited-clause-inference
returns-then-not-is_suited-clause-inference c a s = not-suited (AnswersOne c.args.ctx.now.sig.now c.args.ctx.now.ins.now (reflex c.args.i) c.args.p.now) ((reflex c.args.i).suits c.args.p.now) (reflexion c.args.ctx.now.sig.now c.args.ctx.now.ins.now c.args.p.now c.args.i) (reflexed c.args.ctx.now.sig.now c.args.ctx.now.ins.now c.args.p.now c.args.i)
    (reflexed-is c.args.ctx.now.sig.now c.args.ctx.now.ins.now c.args.p.now c.args.i) (sym c.suits_reflex-is_suited.ensures ∙ c.if-not-is_suited.true) (reflexed-answers c.args.ctx.now.sig.now c.args.ctx.now.ins.now c.args.p.now a s c.args.i)

pub returns-clause-inference : goal.returns-clause-inference
returns-clause-inference c a s = answered (AnswersOne c.args.ctx.now.sig.now c.args.ctx.now.ins.now (reflex c.args.i) c.args.p.now) ((reflex c.args.i).suits c.args.p.now) (reflexion c.args.ctx.now.sig.now c.args.ctx.now.ins.now c.args.p.now c.args.i) (reflexed c.args.ctx.now.sig.now c.args.ctx.now.ins.now c.args.p.now c.args.i)
    (reflexed-is c.args.ctx.now.sig.now c.args.ctx.now.ins.now c.args.p.now c.args.i) (sym c.suits_reflex-is_suited.ensures ∙ c.if-not-is_suited.false) (reflexed-answers c.args.ctx.now.sig.now c.args.ctx.now.ins.now c.args.p.now a s c.args.i) c.reflexion.result c.reflexion.ensures
