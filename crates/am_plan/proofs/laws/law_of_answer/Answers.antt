use Rattle.am_plan.proofs.AnswerGiven.{plan-gives}
use Rattle.am_plan.proofs.laws.law_of_answer.Goals as goal

pub returns : goal.returns
returns c = plan-gives
