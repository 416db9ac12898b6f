use Rattle.am_derivation.proofs.LoggedRows.{logs-proofs}
use Rattle.am_derivation.proofs.laws.law_of_logs.Goals as goal

pub returns : goal.returns
returns c = logs-proofs
