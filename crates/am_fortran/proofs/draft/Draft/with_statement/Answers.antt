use Rattle.am_fortran.proofs.Drafting.{executable_items}
use Rattle.am_fortran.proofs.draft.Draft.with_statement.Goals as goal

pub returns : goal.returns
returns c = executable_items c.args.self.name c.args.self.dummies c.args.self.declarations c.args.self.statements c.push.new.self c.args.self.ended c.args.statement c.in_ok-push.ensures.ok c.requires
