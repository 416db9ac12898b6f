use Rattle.am_syntax.proofs.FromScope.{term-bound, atom-bound, formula-bound}
use Rattle.am_syntax.proofs.laws.variables_are_of_the_scope.Goals as goal

pub returns-clause-terms : goal.returns-clause-terms
returns-clause-terms c = λ s t n sort e. term-bound s n sort t e

pub returns-clause-atoms : goal.returns-clause-atoms
returns-clause-atoms c = λ s a n sort e. atom-bound s n sort a e

pub returns-clause-formulas : goal.returns-clause-formulas
returns-clause-formulas c = λ s f n sort e. formula-bound s n sort f e
