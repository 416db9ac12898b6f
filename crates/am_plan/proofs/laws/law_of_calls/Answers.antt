use Rattle.am_plan.proofs.Needed.{calls-once}
use Rattle.am_plan.proofs.laws.law_of_calls.Goals as goal

pub returns : goal.returns
returns c = calls-once
