use Rattle.am_unify.proofs.Renamed.{most_general-renamed}
use Rattle.am_unify.proofs.laws.law_of_renaming.Goals as goal

pub returns : goal.returns
returns c = most_general-renamed
