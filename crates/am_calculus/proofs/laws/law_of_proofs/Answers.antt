use Rattle.am_world.specs.Questions.{Meets}
use Rattle.am_calculus.proofs.Proved.{proof-holds, last-answers, last-refutes}
use Rattle.am_calculus.proofs.laws.law_of_proofs.Goals as goal

pub returns : goal.returns
returns c = record {
  rows = proof-holds;
  answers = λ sig axioms w sorts ins objects outputs required facts h rows s n d e.
      last-answers sig w ins (Meets w objects outputs required ins) d (proof-holds sig axioms w sorts ins objects outputs required facts h rows s n d e);
  refutes = λ sig axioms w sorts ins objects outputs required facts h rows s n d e none.
      last-refutes sig w ins (Meets w objects outputs required ins) d (proof-holds sig axioms w sorts ins objects outputs required facts h rows s n d e) none h.model.world;
}
