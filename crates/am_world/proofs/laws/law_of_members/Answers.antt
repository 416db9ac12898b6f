use Rattle.am_world.proofs.Meanings.{members-fit}
use Rattle.am_world.proofs.laws.law_of_members.Goals as goal

pub returns : goal.returns
returns c = members-fit
