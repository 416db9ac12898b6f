use Rattle.std.proofs.Common.{arith, ◌<◌, get_or}
use Rattle.am_bank.proofs.Built.{argument-smaller, read-App}
use Rattle.am_bank.proofs.bank.Bank.+term.Goals as goal

pub term-requires : goal.term-requires
term-requires t c =
    let less : (get_or c.deref-arg-items.result.now c.loop-arg.arg-index (record { 0 = 0 })).0 < c.args.id.0 =
    argument-smaller c.args.self.now c.args.id.0 c.node.result.now c.in-App.f c.in-App.args c.deref-arg-items.result.now c.loop-arg.arg-index (record { 0 = 0 })
    c.node.ensures.bank c.node.ensures.node c.in-App.is c.deref-arg-items.ensures.value c.loop-arg-test.true in
    (omega (arith, less, c.decreases), omega (arith, less, c.requires))

pub returns-after-loop-arg : goal.returns-after-loop-arg
returns-after-loop-arg t c =
    read-App c.args.self.now c.args.id.0 c.node.result.now c.in-App.f c.in-App.args c.deref-arg-items.result.now c.loop-arg.arg-index c.loop-arg.made
    c.node.ensures.bank c.node.ensures.node c.in-App.is c.deref-arg-items.ensures.value c.loop-arg-test.false c.loop-arg.invariant
