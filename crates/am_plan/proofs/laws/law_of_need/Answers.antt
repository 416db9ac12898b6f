use Rattle.am_plan.proofs.Needed.{calls-needed}
use Rattle.am_plan.proofs.laws.law_of_need.Goals as goal

pub returns : goal.returns
returns c = calls-needed
