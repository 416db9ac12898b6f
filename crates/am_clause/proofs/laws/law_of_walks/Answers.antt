use Rattle.am_clause.proofs.Walked.{walk-numbered, numbered-walk}
use Rattle.am_clause.proofs.laws.law_of_walks.Goals as goal

pub returns : goal.returns
returns c = record { told = walk-numbered; ends = numbered-walk }
