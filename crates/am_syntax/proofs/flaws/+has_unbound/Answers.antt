-- Each return and each step of the loop is by the equations of the flaw.
use Rattle.std.proofs.Common.{arith}
use Rattle.am_syntax.proofs.FlawSteps.{unbound_flaws}
use Rattle.am_syntax.proofs.flaws.+has_unbound.Goals as goal

pub returns-then-has_unbound : goal.returns-then-has_unbound
returns-then-has_unbound t c = grind (arith, unbound_flaws)

pub loop-arg-preserved : goal.loop-arg-preserved
loop-arg-preserved t c = grind (arith, unbound_flaws)

pub returns-in-Alone : goal.returns-in-Alone
returns-in-Alone t c = grind (arith, unbound_flaws)

pub returns-after-loop-arg : goal.returns-after-loop-arg
returns-after-loop-arg t c = grind (arith, unbound_flaws)
