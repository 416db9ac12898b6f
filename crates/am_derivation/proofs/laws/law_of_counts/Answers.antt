use Rattle.am_derivation.proofs.LoggedRows.{entries-counted}
use Rattle.am_derivation.proofs.laws.law_of_counts.Goals as goal

pub returns : goal.returns
returns c = entries-counted
