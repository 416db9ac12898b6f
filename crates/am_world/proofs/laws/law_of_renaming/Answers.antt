use Rattle.am_world.proofs.Renamings.{value-renamed}
use Rattle.am_world.proofs.laws.law_of_renaming.Goals as goal

pub returns : goal.returns
returns c = value-renamed
