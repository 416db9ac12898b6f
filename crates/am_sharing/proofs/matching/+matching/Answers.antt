use Rattle.std.proofs.Common.{◌∙◌, ap, nat_eq}
use Rattle.std.specs.HashMap.{get}
use Rattle.am_sharing.specs.Terms.{node_term}
use Rattle.am_sharing.proofs.Nodes.{symbol-term}
use Rattle.am_sharing.proofs.Matched.{variable-keeps, application-adds}
use Rattle.am_sharing.proofs.matching.+matching.Goals as goal

-- what was matched stays settled
pub extended-returns-in-Var-clause-settled : goal.extended-returns-in-Var-clause-settled
extended-returns-in-Var-clause-settled t c =
    variable-keeps c.args.ctx.now.sig.now c.args.ctx.now.ins.now c.args.bank.now c.args.pattern.0 c.args.term.0 c.in-Var.n c.in-Var.sort c.args.found (get nat_eq c.args.settled.now) c.variable_bound.result
    (c.node_at.ensures.term ∙ ap (node_term c.args.bank.now) c.in-Var.is) c.requires.settled c.variable_bound.ensures.is

pub extended-returns-in_ok-insert-in-App-clause-settled : goal.extended-returns-in_ok-insert-in-App-clause-settled
extended-returns-in_ok-insert-in-App-clause-settled t c =
    application-adds c.args.ctx.now.sig.now c.args.ctx.now.ins.now c.args.bank.now c.args.pattern.0 c.args.term c.in-App.f c.as_slice.result.now c.args.found c.in-Some-2.more c.in_ok-more-in-App.field-0
    (get nat_eq c.extended_application.new.settled) (get nat_eq c.insert.new.self)
    (symbol-term c.args.bank.now c.args.pattern.0 c.node_at.result.now c.in-App.f c.in-App.args c.as_slice.result.now c.node_at.ensures.term c.in-App.is c.as_slice.ensures.value)
    c.requires.term c.in-Some-2.is c.in_ok-more-in-App.ensures.settled c.in_ok-more-in-App.ensures.is c.in_ok-insert-in-App.ensures.updates.0
