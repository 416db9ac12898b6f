use Rattle.am_world.proofs.Coincidence.{value-agrees, literal-agrees, clause-agrees}
use Rattle.am_world.proofs.laws.law_of_coincidence.Goals as goal

pub returns : goal.returns
returns c = record { terms = value-agrees; literals = literal-agrees; clauses = clause-agrees }
