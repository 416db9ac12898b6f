use Rattle.am_syntax.proofs.WellSorted.{term-sorted}
use Rattle.am_syntax.proofs.WellSortedFormula.{atom-sorted, formula-sorted}
use Rattle.am_syntax.proofs.laws.what_has_no_flaw_is_well_sorted.Goals as goal

pub returns-clause-terms : goal.returns-clause-terms
returns-clause-terms c = λ s sig ins t m f. term-sorted s sig ins m t f

pub returns-clause-atoms : goal.returns-clause-atoms
returns-clause-atoms c = λ s sig ins a m f. atom-sorted s sig ins m a f

pub returns-clause-formulas : goal.returns-clause-formulas
returns-clause-formulas c = λ s sig ins f m e q. formula-sorted s sig ins m f e q
