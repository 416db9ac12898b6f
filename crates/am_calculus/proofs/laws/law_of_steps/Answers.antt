use Rattle.am_world.specs.Questions.{Meets}
use Rattle.am_calculus.proofs.Stepping.{steps-hold}
use Rattle.am_calculus.proofs.laws.law_of_steps.Goals as goal

pub returns : goal.returns
returns c = λ sig w world sorts ins inside objects outputs required. steps-hold sig w world sorts ins inside (Meets w objects outputs required ins)
