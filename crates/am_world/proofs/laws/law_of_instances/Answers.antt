use Rattle.am_world.proofs.Instanced.{literal-instance, literals-instance, values-instances}
use Rattle.am_world.proofs.Meanings.{value-instance}
use Rattle.am_world.proofs.laws.law_of_instances.Goals as goal

pub returns : goal.returns
returns c = record { terms = value-instance; literals = literal-instance; clauses = λ w ins a with c. literals-instance w ins a with c.literals; answers = values-instances }
