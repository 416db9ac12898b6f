use Rattle.am_clause.proofs.NumberedRows.{numbered-clause}
use Rattle.am_clause.proofs.laws.law_of_rows.Goals as goal

pub returns : goal.returns
returns c = numbered-clause
