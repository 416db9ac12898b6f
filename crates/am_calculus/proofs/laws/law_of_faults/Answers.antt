use Rattle.am_calculus.proofs.Faultless.{faultless, step-faultless}
use Rattle.am_calculus.proofs.laws.law_of_faults.Goals as goal

pub returns : goal.returns
returns c = λ sig sorts sources rows row s. (faultless sig sorts sources rows row s, step-faultless sig sorts sources rows row)
