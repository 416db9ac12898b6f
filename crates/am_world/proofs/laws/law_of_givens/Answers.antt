use Rattle.am_world.proofs.Merging.{given-holds}
use Rattle.am_world.proofs.laws.law_of_givens.Goals as goal

pub returns : goal.returns
returns c = λ sig w ins. given-holds w ins sig
