use Rattle.am_check.proofs.Accepting.{contradictions-refute}
use Rattle.am_check.proofs.laws.law_of_refutation.Goals as goal

pub returns : goal.returns
returns c = contradictions-refute
