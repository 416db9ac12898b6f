use Rattle.am_bank.proofs.Built.{grows-on, more-built}
use Rattle.am_bank.proofs.bank.Bank.+building.Goals as goal

pub build_all-loop-term-preserved : goal.build_all-loop-term-preserved
build_all-loop-term-preserved t c = (
  grows-on c.args.self.now c.loop-term.self c.build.new.self c.loop-term.invariant.0 c.build.ensures.grows,
  more-built c.loop-term.self c.build.new.self c.loop-term.ids.items c.push.new.self.items c.in_ok-id.id c.args.terms.now c.loop-term.term-index c.term-item.result
      c.build.ensures.grows c.loop-term.invariant.1 c.in_ok-id.ensures.tree c.loop-term-test.true c.term-item.is c.in_ok-push.ensures.items,
)
