use Rattle.am_world.proofs.Meanings.{value-member}
use Rattle.am_world.proofs.laws.law_of_values.Goals as goal

pub returns : goal.returns
returns c = value-member
