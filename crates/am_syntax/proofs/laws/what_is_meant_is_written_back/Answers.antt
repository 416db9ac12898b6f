use Rattle.am_syntax.proofs.WrittenBack.{term-back, atom-back, formula-back}
use Rattle.am_syntax.proofs.laws.what_is_meant_is_written_back.Goals as goal

pub returns-clause-terms : goal.returns-clause-terms
returns-clause-terms c = λ s n words t b p e u. term-back s n words b t p e u

pub returns-clause-atoms : goal.returns-clause-atoms
returns-clause-atoms c = λ s n words a b p e u. atom-back s n words b a p e u

pub returns-clause-formulas : goal.returns-clause-formulas
returns-clause-formulas c = λ s n words f b p e u q. formula-back s n words b f p e u q
