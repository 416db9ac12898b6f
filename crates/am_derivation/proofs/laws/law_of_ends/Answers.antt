use Rattle.am_derivation.proofs.LogEnds.{logs-end}
use Rattle.am_derivation.proofs.laws.law_of_ends.Goals as goal

pub returns : goal.returns
returns c = logs-end
