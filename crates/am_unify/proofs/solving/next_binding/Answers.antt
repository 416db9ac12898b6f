use Rattle.std.proofs.Common.{◌∙◌, sym}
use Rattle.am_unify.proofs.Unified.{left-more, next-bind, next-clash}
use Rattle.am_unify.proofs.solving.next_binding.Goals as goal

pub opening-preserved : goal.opening-preserved
opening-preserved c = left-more c.args.ctx.now.sig.now c.args.ctx.now.ins.now c.args.pairs c.opening.todo c.remove-left.new.self c.remove-left.result c.opening.invariant c.remove-left.ensures.item c.remove-left.ensures.rest c.in-More.more c.append.new.self (sym c.in_ok-more.ensures ∙ c.in-More.is) c.in_ok-append-in-More.ensures

pub returns-in-Bind : goal.returns-in-Bind
returns-in-Bind c = next-bind c.args.ctx.now.sig.now c.args.ctx.now.ins.now c.args.pairs c.opening.todo c.remove-left.new.self c.remove-left.result c.opening.invariant c.remove-left.ensures.item c.remove-left.ensures.rest c.in-Bind.n c.in-Bind.term (sym c.in_ok-more.ensures ∙ c.in-Bind.is)

pub returns-in-Clash : goal.returns-in-Clash
returns-in-Clash c = next-clash c.args.ctx.now.sig.now c.args.ctx.now.ins.now c.args.pairs c.opening.todo c.remove-left.new.self c.remove-left.result c.opening.invariant c.remove-left.ensures.item c.remove-left.ensures.rest (sym c.in_ok-more.ensures ∙ c.in-Clash.is)
