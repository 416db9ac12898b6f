use Rattle.am_clause.proofs.Occurring.{span-low}
use Rattle.am_clause.proofs.laws.law_of_covers.Goals as goal

pub returns : goal.returns
returns c = span-low
