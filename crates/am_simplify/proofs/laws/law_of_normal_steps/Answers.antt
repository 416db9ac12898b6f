use Rattle.am_simplify.proofs.Stepping.{normal-step}
use Rattle.am_simplify.proofs.laws.law_of_normal_steps.Goals as goal

pub returns : goal.returns
returns c sig ins rows clause proper all s e = normal-step sig ins rows clause proper all s e
