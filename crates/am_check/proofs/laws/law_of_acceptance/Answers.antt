use Rattle.am_exec.proofs.Keeping.{units-right}
use Rattle.am_check.proofs.Accepting.{accepted-right}
use Rattle.am_check.proofs.laws.law_of_acceptance.Goals as goal

pub returns : goal.returns
returns c = accepted-right units-right
