use Rattle.am_world.proofs.Replaced.{literal-replaced}
use Rattle.am_world.proofs.Replacing.{value-replaced}
use Rattle.am_world.proofs.laws.law_of_places.Goals as goal

pub returns : goal.returns
returns c = record { literals = literal-replaced; terms = value-replaced }
