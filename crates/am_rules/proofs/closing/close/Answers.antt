use Rattle.std.proofs.Common.{◌∙◌, sym}
use Rattle.am_clause.specs.Rules.{close}
use Rattle.am_rules.specs.Chosen.{closing}
use Rattle.am_rules.specs.Closing.{AnswersClosing}
use Rattle.am_rules.specs.Conclusions.{closed_off, closed-is}
use Rattle.am_rules.proofs.Concluded.{not-suited, answered, closed-answers}
use Rattle.am_rules.proofs.closing.close.Goals as goal

pub returns-then-not-is_suited-clause-inference : goal.returns-then-not-is_suited-clause-inference
returns-then-not-is_suited-clause-inference c a = not-suited (AnswersClosing c.args.ctx.now.sig.now c.args.ctx.now.ins.now c.args.p.now) (close.suits c.args.p.now) (closing c.args.ctx.now.sig.now c.args.ctx.now.ins.now c.args.p.now) (closed_off c.args.ctx.now.sig.now c.args.ctx.now.ins.now c.args.p.now)
    (closed-is c.args.ctx.now.sig.now c.args.ctx.now.ins.now c.args.p.now) (sym c.suits_close-is_suited.ensures ∙ c.if-not-is_suited.true) (closed-answers c.args.ctx.now.sig.now c.args.ctx.now.ins.now c.args.p.now a)

pub returns-clause-inference : goal.returns-clause-inference
returns-clause-inference c a = answered (AnswersClosing c.args.ctx.now.sig.now c.args.ctx.now.ins.now c.args.p.now) (close.suits c.args.p.now) (closing c.args.ctx.now.sig.now c.args.ctx.now.ins.now c.args.p.now) (closed_off c.args.ctx.now.sig.now c.args.ctx.now.ins.now c.args.p.now)
    (closed-is c.args.ctx.now.sig.now c.args.ctx.now.ins.now c.args.p.now) (sym c.suits_close-is_suited.ensures ∙ c.if-not-is_suited.false) (closed-answers c.args.ctx.now.sig.now c.args.ctx.now.ins.now c.args.p.now a) c.closing.result c.closing.ensures
