use Rattle.std.proofs.Common.{◌≤◌, ◌∙◌, sym, ap, length, arith}
use Rattle.am_sharing.specs.Terms.{term_at}
use Rattle.am_shared_unify.specs.Opening.{opened_at, opened_bound}
use Rattle.am_shared_unify.specs.Unifying.{pair_ids_bound}
use Rattle.am_shared_unify.proofs.Solved.{binds-next, clashes, more-left}
use Rattle.am_shared_unify.proofs.solving.next_binding.Goals as goal

pub opening-preserved : goal.opening-preserved
opening-preserved c =
    let bound = ap opened_bound c.in-More.is in
    let below = c.in_ok-more.ensures.within in
    let small : pair_ids_bound c.in-More.more ≤ length c.args.bank.now = omega arith in (
      more-left c.args.ctx.now.sig.now c.args.ctx.now.ins.now c.args.bank.now c.args.pairs c.opening.todo c.remove.new.self c.remove.result c.opening.invariant.0 c.remove.ensures.item c.remove.ensures.rest
          c.in-More.more c.append.new.self (sym c.in_ok-more.ensures.is ∙ ap (opened_at c.args.bank.now) c.in-More.is) c.in_ok-append-in-More.ensures small,
      c.open.ensures.table,
    )

pub returns-in-Bind-clause-is : goal.returns-in-Bind-clause-is
returns-in-Bind-clause-is c =
    binds-next c.args.ctx.now.sig.now c.args.ctx.now.ins.now c.args.bank.now c.args.pairs c.opening.todo c.remove.new.self c.remove.result c.opening.invariant.0 c.remove.ensures.item c.remove.ensures.rest
    c.in-Bind.n (term_at c.args.bank.now c.in-Bind.id.0) (sym c.in_ok-more.ensures.is ∙ ap (opened_at c.args.bank.now) c.in-Bind.is)

pub returns-in-Clash-clause-is : goal.returns-in-Clash-clause-is
returns-in-Clash-clause-is c =
    clashes c.args.ctx.now.sig.now c.args.ctx.now.ins.now c.args.bank.now c.args.pairs c.opening.todo c.remove.new.self c.remove.result c.opening.invariant.0 c.remove.ensures.item c.remove.ensures.rest
    (sym c.in_ok-more.ensures.is ∙ ap (opened_at c.args.bank.now) c.in-Clash.is)
