use Rattle.am_syntax.proofs.Larger.{term-kept}
use Rattle.am_syntax.proofs.LargerFormula.{atom-kept, formula-kept}
use Rattle.am_syntax.proofs.laws.in_a_larger_scope_nothing_changes.Goals as goal

pub returns-clause-terms : goal.returns-clause-terms
returns-clause-terms c = λ s r t x e u. term-kept s r x t e u

pub returns-clause-atoms : goal.returns-clause-atoms
returns-clause-atoms c = λ s r a x e u. atom-kept s r x a e u

pub returns-clause-formulas : goal.returns-clause-formulas
returns-clause-formulas c = λ s r f x e u. formula-kept s r x f e u
