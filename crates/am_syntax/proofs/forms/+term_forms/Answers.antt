-- Each kind of term is by its equation, and each step of the loop is one more term.
use Rattle.std.proofs.Common.{arith}
use Rattle.am_syntax.proofs.FormEquations.{term_form_laws}
use Rattle.am_syntax.proofs.forms.+term_forms.Goals as goal

pub term_form-returns-in-Alone : goal.term_form-returns-in-Alone
term_form-returns-in-Alone t c = grind (arith, term_form_laws)

pub term_form-returns-in-Headed : goal.term_form-returns-in-Headed
term_form-returns-in-Headed t c = grind (arith, term_form_laws)

pub headed_form-loop-term-preserved : goal.headed_form-loop-term-preserved
headed_form-loop-term-preserved t c = grind (arith, term_form_laws)
