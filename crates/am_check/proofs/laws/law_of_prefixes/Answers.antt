use Rattle.am_log.proofs.AllTexts.{log_split}
use Rattle.am_log.proofs.Parts.{one_split}
use Rattle.am_check.proofs.Prefixes.{no-prefix}
use Rattle.am_check.proofs.laws.law_of_prefixes.Goals as goal

pub returns : goal.returns
returns c = no-prefix log_split one_split
