use Rattle.am_theory.proofs.WellFormedRead.{read_well_formed}
use Rattle.am_theory.proofs.laws.theories_that_were_read_are_well_formed.Goals as goal

pub returns : goal.returns
returns c = λ bytes t e. read_well_formed bytes t e
