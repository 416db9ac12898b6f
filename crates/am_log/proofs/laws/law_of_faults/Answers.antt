use Rattle.am_log.proofs.Decided.{each_decided}
use Rattle.am_log.proofs.laws.law_of_faults.Goals as goal

pub returns : goal.returns
returns c = each_decided
