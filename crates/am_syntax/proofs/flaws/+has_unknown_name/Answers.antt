-- Each return and each step of the loop is by the equations of the flaw.
use Rattle.std.proofs.Common.{arith}
use Rattle.am_syntax.proofs.FlawSteps.{name_flaws}
use Rattle.am_syntax.proofs.flaws.+has_unknown_name.Goals as goal

pub returns-then-is_unknown : goal.returns-then-is_unknown
returns-then-is_unknown t c = grind (arith, name_flaws)

pub returns-then-has_unknown_name : goal.returns-then-has_unknown_name
returns-then-has_unknown_name t c = grind (arith, name_flaws)

pub loop-arg-preserved : goal.loop-arg-preserved
loop-arg-preserved t c = grind (arith, name_flaws)

pub returns-in-Alone : goal.returns-in-Alone
returns-in-Alone t c = grind (arith, name_flaws)

pub returns-after-loop-arg : goal.returns-after-loop-arg
returns-after-loop-arg t c = grind (arith, name_flaws)
