use Rattle.am_diagram.proofs.DiagramWellFormed.{read_well_formed}
use Rattle.am_diagram.proofs.laws.diagrams_that_were_read_are_well_formed.Goals as goal

pub returns : goal.returns
returns c = λ t bytes d w e. read_well_formed t bytes d e
