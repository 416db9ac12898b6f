use Rattle.am_world.proofs.Asked.{goal-holds}
use Rattle.am_world.proofs.laws.law_of_goals.Goals as goal

pub returns : goal.returns
returns c = goal-holds
