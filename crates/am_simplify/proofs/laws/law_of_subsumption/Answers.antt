use Rattle.am_simplify.proofs.Subsumed.{law}
use Rattle.am_simplify.proofs.laws.law_of_subsumption.Goals as goal

pub returns : goal.returns
returns c sig ins d e numbered sorted = law sig ins d numbered sorted e
