use Rattle.am_log.proofs.Parts.{one_split}
use Rattle.am_log.proofs.laws.law_of_split.Goals as goal

pub returns : goal.returns
returns c = one_split
