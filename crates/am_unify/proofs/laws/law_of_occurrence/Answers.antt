use Rattle.am_unify.proofs.Numbers.{number-occurs, variable-occurs}
use Rattle.am_unify.proofs.laws.law_of_occurrence.Goals as goal

pub returns-clause-number : goal.returns-clause-number
returns-clause-number c = number-occurs

pub returns-clause-variable : goal.returns-clause-variable
returns-clause-variable c = variable-occurs
