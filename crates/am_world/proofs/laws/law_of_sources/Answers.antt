use Rattle.am_world.specs.Questions.{Meets}
use Rattle.am_world.proofs.Started.{sources-hold}
use Rattle.am_world.proofs.laws.law_of_sources.Goals as goal

pub returns : goal.returns
returns c = λ sig w ins axioms model sorted objects outputs required. sources-hold sig w ins axioms model sorted (Meets w objects outputs required ins)
