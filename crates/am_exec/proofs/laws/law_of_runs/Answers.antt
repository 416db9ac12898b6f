use Rattle.am_exec.proofs.Keeping.{units-run}
use Rattle.am_exec.proofs.laws.law_of_runs.Goals as goal

pub returns : goal.returns
returns c = units-run
