-- Each kind of term is by its equation, and each step of the loop is one more term.
use Rattle.std.proofs.Common.{arith}
use Rattle.am_syntax.proofs.NamingSteps.{named_terms}
use Rattle.am_syntax.proofs.naming.+terms.Goals as goal

pub named_term-returns-in-Var : goal.named_term-returns-in-Var
named_term-returns-in-Var t c = grind (arith, named_terms)

pub named_term-returns-in-In : goal.named_term-returns-in-In
named_term-returns-in-In t c = grind (arith, named_terms)

pub named_term-returns-in_ok-args-in-App : goal.named_term-returns-in_ok-args-in-App
named_term-returns-in_ok-args-in-App t c = grind (arith, named_terms)

pub named_terms-loop-term-preserved : goal.named_terms-loop-term-preserved
named_terms-loop-term-preserved t c = grind (arith, named_terms)
