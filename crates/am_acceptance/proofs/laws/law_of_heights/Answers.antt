use Rattle.am_acceptance.proofs.AxiomsLow.{axioms-low}
use Rattle.am_acceptance.proofs.laws.law_of_heights.Goals as goal

pub returns : goal.returns
returns c = axioms-low
