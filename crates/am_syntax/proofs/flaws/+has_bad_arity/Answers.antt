-- Each return and each step of the loop is by the equations of the flaw.
use Rattle.std.proofs.Common.{arith}
use Rattle.am_syntax.proofs.FlawSteps.{arity_flaws}
use Rattle.am_syntax.proofs.flaws.+has_bad_arity.Goals as goal

pub returns-then-is_miscounted : goal.returns-then-is_miscounted
returns-then-is_miscounted t c = grind (arith, arity_flaws)

pub returns-then-has_bad_arity : goal.returns-then-has_bad_arity
returns-then-has_bad_arity t c = grind (arith, arity_flaws)

pub loop-arg-preserved : goal.loop-arg-preserved
loop-arg-preserved t c = grind (arith, arity_flaws)

pub returns-in-Alone : goal.returns-in-Alone
returns-in-Alone t c = grind (arith, arity_flaws)

pub returns-after-loop-arg : goal.returns-after-loop-arg
returns-after-loop-arg t c = grind (arith, arity_flaws)
