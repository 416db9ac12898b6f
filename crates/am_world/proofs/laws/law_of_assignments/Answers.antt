use Rattle.am_world.proofs.Assigned.{members_of, members-assigned}
use Rattle.am_world.proofs.laws.law_of_assignments.Goals as goal

pub returns : goal.returns
returns c = λ sig w world. (members_of sig w world, members-assigned sig w world)
