use Rattle.am_bank.proofs.Push.{stays_bank, stored_at, grown}
use Rattle.am_bank.proofs.bank.Bank.intern.Goals as goal

pub invariant_of-self-2 : goal.invariant_of-self-2
invariant_of-self-2 c = stays_bank c.self.inside.nodes.keys c.args.node c.insert_full.new.self.keys c.self.invariant (rw (← c.self.view_is) at c.requires) c.in_ok-index.ensures.keys

pub returns-clause-there : goal.returns-clause-there
returns-clause-there c = stored_at c.insert_full.new.self.keys c.args.node c.in_ok-index.ensures.stored.0 c.in_ok-index.index c.in_ok-index.ensures.stored.1 c.in_ok-index.ensures.stored.2

pub returns-clause-nodes : goal.returns-clause-nodes
returns-clause-nodes c = rw (← c.self.view_is)
    (grown c.self.inside.nodes.keys c.args.node c.insert_full.new.self.keys c.in_ok-index.index c.in_ok-index.ensures.keys
    (stored_at c.insert_full.new.self.keys c.args.node c.in_ok-index.ensures.stored.0 c.in_ok-index.index c.in_ok-index.ensures.stored.1 c.in_ok-index.ensures.stored.2))

pub returns-clause-bank : goal.returns-clause-bank
returns-clause-bank c = stays_bank c.self.inside.nodes.keys c.args.node c.insert_full.new.self.keys c.self.invariant (rw (← c.self.view_is) at c.requires) c.in_ok-index.ensures.keys
