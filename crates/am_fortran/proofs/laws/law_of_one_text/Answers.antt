use Rattle.am_fortran.proofs.Parts.{unit_injective}
use Rattle.am_fortran.proofs.laws.law_of_one_text.Goals as goal

pub returns : goal.returns
returns c = λ u v h k e. unit_injective u v h k e
