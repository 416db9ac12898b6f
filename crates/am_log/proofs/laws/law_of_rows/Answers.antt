use Rattle.am_log.proofs.AllTexts.{rows_cut}
use Rattle.am_log.proofs.laws.law_of_rows.Goals as goal

pub returns : goal.returns
returns c = rows_cut
