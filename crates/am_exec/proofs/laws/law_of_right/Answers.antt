use Rattle.am_exec.proofs.Keeping.{units-right}
use Rattle.am_exec.proofs.laws.law_of_right.Goals as goal

pub returns : goal.returns
returns c = units-right
