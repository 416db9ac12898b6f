use Rattle.am_rules.specs.Paramodulation.{paramodulant, para_pairs}
use Rattle.am_rules.proofs.Resolved.{made-is}
use Rattle.am_rules.proofs.paramodulating.paramodulation.Goals as goal

pub returns-in-Some : goal.returns-in-Some
returns-in-Some c = made-is c.args.ctx.now.sig.now c.args.ctx.now.ins.now c.args.p.now c.args.q.now (paramodulant c.args.p.now c.args.j c.args.side c.args.q.now c.args.i c.args.path.now) (para_pairs c.args.p.now c.args.j c.args.side c.args.q.now c.args.i c.args.path.now)
    c.in_ok-k.k c.len.result c.in_ok-variables.variables c.in_ok-found.field-0 c.in-Some.found c.in_ok-replaced_by-in-Some.field-0
    c.in_ok-k.ensures c.len.ensures c.in_ok-variables.ensures c.in_ok-found.ensures c.in-Some.is c.in_ok-replaced_by-in-Some.ensures
