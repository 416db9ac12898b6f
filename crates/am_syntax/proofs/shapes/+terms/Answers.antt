-- Each kind of term is by its equation, and each step of the loop is one more term.
use Rattle.std.proofs.Common.{arith}
use Rattle.am_syntax.proofs.ShapeEquations.{term_laws}
use Rattle.am_syntax.proofs.shapes.+terms.Goals as goal

pub term_of-returns-in-Word : goal.term_of-returns-in-Word
term_of-returns-in-Word t c = grind (arith, term_laws)

pub term_of-returns-in-Number : goal.term_of-returns-in-Number
term_of-returns-in-Number t c = grind (arith, term_laws)

pub term_of-returns-in-Text : goal.term_of-returns-in-Text
term_of-returns-in-Text t c = grind (arith, term_laws)

pub all_terms-loop-form-preserved : goal.all_terms-loop-form-preserved
all_terms-loop-form-preserved t c = grind (arith, term_laws)
