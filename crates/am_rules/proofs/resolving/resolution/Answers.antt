use Rattle.am_rules.specs.Asked.{asked}
use Rattle.am_rules.specs.Resolution.{nth_atom, resolvent}
use Rattle.am_rules.proofs.Resolved.{made-is}
use Rattle.am_rules.proofs.resolving.resolution.Goals as goal

pub returns-in-Some : goal.returns-in-Some
returns-in-Some c = made-is c.args.ctx.now.sig.now c.args.ctx.now.ins.now c.args.p.now c.args.q.now (resolvent c.args.p.now c.args.i c.args.q.now c.args.j) (asked (nth_atom c.args.i c.args.p.now) (nth_atom c.args.j c.args.q.now) c.args.p.now.answer c.args.q.now.answer)
    c.in_ok-k.k c.len.result c.in_ok-variables.variables c.in_ok-found.field-0 c.in-Some.found c.in_ok-resolved_by-in-Some.field-0
    c.in_ok-k.ensures c.len.ensures c.in_ok-variables.ensures c.in_ok-found.ensures c.in-Some.is c.in_ok-resolved_by-in-Some.ensures
