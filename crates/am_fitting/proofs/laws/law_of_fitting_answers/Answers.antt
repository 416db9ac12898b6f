use Rattle.am_fitting.proofs.FittingStarts.{answers-fit}
use Rattle.am_fitting.proofs.laws.law_of_fitting_answers.Goals as goal

pub returns : goal.returns
returns c = answers-fit
