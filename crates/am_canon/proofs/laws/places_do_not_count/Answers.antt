use Rattle.am_canon.proofs.DeclarationPlaces.{same_declaration, same_version}
use Rattle.am_canon.proofs.laws.places_do_not_count.Goals as goal

pub returns : goal.returns
returns c = λ f g e. (same_declaration f g e, same_version f g e)
