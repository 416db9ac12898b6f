use Rattle.am_world.specs.Questions.{Meets}
use Rattle.am_calculus.proofs.Proved.{last-answers, last-refutes}
use Rattle.am_calculus.proofs.laws.law_of_last.Goals as goal

pub returns : goal.returns
returns c = record {
  answers = λ sig w ins objects outputs required. last-answers sig w ins (Meets w objects outputs required ins);
  refutes = λ sig w world ins objects outputs required d h none. last-refutes sig w ins (Meets w objects outputs required ins) d h none world;
}
