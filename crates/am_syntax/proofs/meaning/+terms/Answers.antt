-- Each kind of term is by its equation, and each step of the loop is one more term.
use Rattle.std.proofs.Common.{arith}
use Rattle.am_syntax.proofs.MeaningSteps.{term_meanings}
use Rattle.am_syntax.proofs.meaning.+terms.Goals as goal

pub term_meaning-returns-in-Alone : goal.term_meaning-returns-in-Alone
term_meaning-returns-in-Alone t c = grind (arith, term_meanings)

pub term_meaning-returns-in_ok-args-in-Headed : goal.term_meaning-returns-in_ok-args-in-Headed
term_meaning-returns-in_ok-args-in-Headed t c = grind (arith, term_meanings)

pub term_meanings-loop-term-preserved : goal.term_meanings-loop-term-preserved
term_meanings-loop-term-preserved t c = grind (arith, term_meanings)
