use Rattle.am_log.proofs.AllTexts.{one_way}
use Rattle.am_log.proofs.laws.law_of_one_way.Goals as goal

pub returns : goal.returns
returns c = one_way
