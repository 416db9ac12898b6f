use Rattle.std.proofs.Common.{◌∙◌, sym, ap}
use Rattle.am_clause.specs.Rules.{rewrite}
use Rattle.am_rules.specs.Conclusions.{rewritten, rewritten-is, rewriting}
use Rattle.am_rules.specs.Inference.{AnswersRewrite}
use Rattle.am_rules.specs.Paramodulation.{sorted_only}
use Rattle.am_rules.proofs.Concluded.{not-suited, as-suited, rewritten-answers}
use Rattle.am_rules.proofs.Rewritings.{rewriting-found}
use Rattle.am_rules.proofs.rewriting.rewrite.Goals as goal

pub returns-then-not-is_suited-clause-inference : goal.returns-then-not-is_suited-clause-inference
returns-then-not-is_suited-clause-inference c a b s t = not-suited (AnswersRewrite c.args.ctx.now.sig.now c.args.ctx.now.ins.now c.args.p.now c.args.side c.args.q.now c.args.i c.args.path.now) ((rewrite 1 c.args.side c.args.i c.args.path.now).suits c.args.p.now c.args.q.now) (sorted_only c.args.ctx.now.sig.now c.args.ctx.now.ins.now (rewriting c.args.ctx.now.sig.now c.args.ctx.now.ins.now c.args.p.now c.args.side c.args.q.now c.args.i c.args.path.now)) (rewritten c.args.ctx.now.sig.now c.args.ctx.now.ins.now c.args.p.now c.args.side c.args.q.now c.args.i c.args.path.now)
    (rewritten-is c.args.ctx.now.sig.now c.args.ctx.now.ins.now c.args.p.now c.args.side c.args.q.now c.args.i c.args.path.now) (sym c.suits_rewrite-is_suited.ensures ∙ c.if-not-is_suited.true) (rewritten-answers c.args.ctx.now.sig.now c.args.ctx.now.ins.now c.args.p.now c.args.q.now a b s t c.args.side c.args.i c.args.path.now)

pub returns-clause-inference : goal.returns-clause-inference
returns-clause-inference c a b s t = as-suited (AnswersRewrite c.args.ctx.now.sig.now c.args.ctx.now.ins.now c.args.p.now c.args.side c.args.q.now c.args.i c.args.path.now) ((rewrite 1 c.args.side c.args.i c.args.path.now).suits c.args.p.now c.args.q.now) (sorted_only c.args.ctx.now.sig.now c.args.ctx.now.ins.now (rewriting c.args.ctx.now.sig.now c.args.ctx.now.ins.now c.args.p.now c.args.side c.args.q.now c.args.i c.args.path.now)) (rewritten c.args.ctx.now.sig.now c.args.ctx.now.ins.now c.args.p.now c.args.side c.args.q.now c.args.i c.args.path.now)
    (rewritten-is c.args.ctx.now.sig.now c.args.ctx.now.ins.now c.args.p.now c.args.side c.args.q.now c.args.i c.args.path.now) (sym c.suits_rewrite-is_suited.ensures ∙ c.if-not-is_suited.false) (rewritten-answers c.args.ctx.now.sig.now c.args.ctx.now.ins.now c.args.p.now c.args.q.now a b s t c.args.side c.args.i c.args.path.now)
    c.if_sorted.result (c.if_sorted.ensures ∙ ap (sorted_only c.args.ctx.now.sig.now c.args.ctx.now.ins.now) (c.in_ok-found.ensures ∙ sym (rewriting-found c.args.ctx.now.sig.now c.args.ctx.now.ins.now c.args.p.now c.args.side c.args.q.now c.args.i c.args.path.now)))
