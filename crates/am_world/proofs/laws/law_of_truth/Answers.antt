use Rattle.am_world.proofs.Pinned.{equation-true, some-false}
use Rattle.am_world.proofs.laws.law_of_truth.Goals as goal

pub returns : goal.returns
returns c = record { equations = equation-true; falsehood = some-false }
