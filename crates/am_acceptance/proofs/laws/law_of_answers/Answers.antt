use Rattle.am_acceptance.proofs.Accepting.{answers-serve}
use Rattle.am_acceptance.proofs.laws.law_of_answers.Goals as goal

pub returns : goal.returns
returns c = answers-serve
