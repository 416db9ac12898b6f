use Rattle.am_syntax.proofs.PlacesAside.{places_aside}
use Rattle.am_syntax.proofs.laws_of_shapes.places_do_not_count.Goals as goal

pub returns : goal.returns
returns c = places_aside
