use Rattle.am_text.proofs.Converse.{fault_means_none}
use Rattle.am_text.proofs.laws.faults_have_no_reading.Goals as goal

pub returns : goal.returns
returns c = λ limit depth bytes fault forms e r. fault_means_none limit depth bytes fault forms e r
