use Rattle.am_log.proofs.AllTexts.{one_log, log_split}
use Rattle.am_log.proofs.Decided.{each_decided}
use Rattle.am_log.proofs.Parts.{one_split}
use Rattle.am_check.proofs.Outcomes.{each-has-one}
use Rattle.am_check.proofs.laws.law_of_refusal.Goals as goal

pub returns : goal.returns
returns c = each-has-one (record { texts = one_log; each = each_decided; splits = one_split; part = log_split })
