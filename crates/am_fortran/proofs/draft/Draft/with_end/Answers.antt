use Rattle.am_fortran.proofs.Drafting.{end_items}
use Rattle.am_fortran.proofs.draft.Draft.with_end.Goals as goal

pub returns : goal.returns
returns c = end_items c.args.self.name c.args.self.dummies c.args.self.declarations c.args.self.statements c.args.self.ended c.requires
