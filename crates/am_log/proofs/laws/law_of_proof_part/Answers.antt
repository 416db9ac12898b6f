use Rattle.am_log.proofs.AllTexts.{log_split}
use Rattle.am_log.proofs.laws.law_of_proof_part.Goals as goal

pub returns : goal.returns
returns c = log_split
