use Rattle.std.proofs.Common.{◌∙◌, sym, ap}
use Rattle.am_clause.specs.Rules.{para}
use Rattle.am_rules.specs.Conclusions.{paramodulated, paramodulated-is}
use Rattle.am_rules.specs.Inference.{AnswersSorted}
use Rattle.am_rules.specs.Paramodulation.{paramodulation, sorted_only}
use Rattle.am_rules.proofs.Concluded.{not-suited, as-suited, paramodulated-answers}
use Rattle.am_rules.proofs.paramodulating.paramodulate.Goals as goal

pub returns-then-not-is_suited-clause-inference : goal.returns-then-not-is_suited-clause-inference
returns-then-not-is_suited-clause-inference c a b s t = not-suited (AnswersSorted c.args.ctx.now.sig.now c.args.ctx.now.ins.now (para c.args.j c.args.side c.args.i c.args.path.now) c.args.p.now c.args.q.now) ((para c.args.j c.args.side c.args.i c.args.path.now).suits c.args.p.now c.args.q.now) (sorted_only c.args.ctx.now.sig.now c.args.ctx.now.ins.now (paramodulation c.args.ctx.now.sig.now c.args.ctx.now.ins.now c.args.p.now c.args.j c.args.side c.args.q.now c.args.i c.args.path.now)) (paramodulated c.args.ctx.now.sig.now c.args.ctx.now.ins.now c.args.p.now c.args.j c.args.side c.args.q.now c.args.i c.args.path.now)
    (paramodulated-is c.args.ctx.now.sig.now c.args.ctx.now.ins.now c.args.p.now c.args.j c.args.side c.args.q.now c.args.i c.args.path.now) (sym c.suits_para-is_suited.ensures ∙ c.if-not-is_suited.true) (paramodulated-answers c.args.ctx.now.sig.now c.args.ctx.now.ins.now c.args.p.now c.args.q.now a b s t c.args.j c.args.side c.args.i c.args.path.now)

pub returns-clause-inference : goal.returns-clause-inference
returns-clause-inference c a b s t = as-suited (AnswersSorted c.args.ctx.now.sig.now c.args.ctx.now.ins.now (para c.args.j c.args.side c.args.i c.args.path.now) c.args.p.now c.args.q.now) ((para c.args.j c.args.side c.args.i c.args.path.now).suits c.args.p.now c.args.q.now) (sorted_only c.args.ctx.now.sig.now c.args.ctx.now.ins.now (paramodulation c.args.ctx.now.sig.now c.args.ctx.now.ins.now c.args.p.now c.args.j c.args.side c.args.q.now c.args.i c.args.path.now)) (paramodulated c.args.ctx.now.sig.now c.args.ctx.now.ins.now c.args.p.now c.args.j c.args.side c.args.q.now c.args.i c.args.path.now)
    (paramodulated-is c.args.ctx.now.sig.now c.args.ctx.now.ins.now c.args.p.now c.args.j c.args.side c.args.q.now c.args.i c.args.path.now) (sym c.suits_para-is_suited.ensures ∙ c.if-not-is_suited.false) (paramodulated-answers c.args.ctx.now.sig.now c.args.ctx.now.ins.now c.args.p.now c.args.q.now a b s t c.args.j c.args.side c.args.i c.args.path.now)
    c.if_sorted.result (c.if_sorted.ensures ∙ ap (sorted_only c.args.ctx.now.sig.now c.args.ctx.now.ins.now) c.in_ok-found.ensures)
