use Rattle.am_clause.proofs.Lengths.{count-length}
use Rattle.am_clause.proofs.laws.law_of_count.Goals as goal

pub returns : goal.returns
returns c = count-length
