use Rattle.std.proofs.Common.{◌∙◌, sym}
use Rattle.am_clause.specs.Rules.{resolve}
use Rattle.am_rules.specs.Conclusions.{resolved, resolved-is}
use Rattle.am_rules.specs.Inference.{AnswersTwo}
use Rattle.am_rules.specs.Solving.{resolution}
use Rattle.am_rules.proofs.Concluded.{not-suited, answered, resolved-answers}
use Rattle.am_rules.proofs.resolving.resolve.Goals as goal

pub returns-then-not-is_suited-clause-inference : goal.returns-then-not-is_suited-clause-inference
returns-then-not-is_suited-clause-inference c a b s t = not-suited (AnswersTwo c.args.ctx.now.sig.now c.args.ctx.now.ins.now (resolve c.args.i c.args.j) c.args.p.now c.args.q.now) ((resolve c.args.i c.args.j).suits c.args.p.now c.args.q.now) (resolution c.args.ctx.now.sig.now c.args.ctx.now.ins.now c.args.p.now c.args.i c.args.q.now c.args.j) (resolved c.args.ctx.now.sig.now c.args.ctx.now.ins.now c.args.p.now c.args.i c.args.q.now c.args.j)
    (resolved-is c.args.ctx.now.sig.now c.args.ctx.now.ins.now c.args.p.now c.args.i c.args.q.now c.args.j) (sym c.suits_resolve-is_suited.ensures ∙ c.if-not-is_suited.true) (resolved-answers c.args.ctx.now.sig.now c.args.ctx.now.ins.now c.args.p.now c.args.q.now a b s t c.args.i c.args.j)

pub returns-clause-inference : goal.returns-clause-inference
returns-clause-inference c a b s t = answered (AnswersTwo c.args.ctx.now.sig.now c.args.ctx.now.ins.now (resolve c.args.i c.args.j) c.args.p.now c.args.q.now) ((resolve c.args.i c.args.j).suits c.args.p.now c.args.q.now) (resolution c.args.ctx.now.sig.now c.args.ctx.now.ins.now c.args.p.now c.args.i c.args.q.now c.args.j) (resolved c.args.ctx.now.sig.now c.args.ctx.now.ins.now c.args.p.now c.args.i c.args.q.now c.args.j)
    (resolved-is c.args.ctx.now.sig.now c.args.ctx.now.ins.now c.args.p.now c.args.i c.args.q.now c.args.j) (sym c.suits_resolve-is_suited.ensures ∙ c.if-not-is_suited.false) (resolved-answers c.args.ctx.now.sig.now c.args.ctx.now.ins.now c.args.p.now c.args.q.now a b s t c.args.i c.args.j) c.resolution.result c.resolution.ensures
