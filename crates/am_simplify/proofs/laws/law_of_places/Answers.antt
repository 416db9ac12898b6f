use Rattle.am_simplify.proofs.Listed.{place-law}
use Rattle.am_simplify.proofs.laws.law_of_places.Goals as goal

pub returns : goal.returns
returns c a path = place-law a path
