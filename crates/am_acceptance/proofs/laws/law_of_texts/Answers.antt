use Rattle.am_acceptance.proofs.Writable.{logs-written}
use Rattle.am_acceptance.proofs.laws.law_of_texts.Goals as goal

pub returns : goal.returns
returns c = logs-written
