use Rattle.am_exec.proofs.Keeping.{units-lawful}
use Rattle.am_exec.proofs.laws.law_of_rules.Goals as goal

pub returns : goal.returns
returns c = units-lawful
