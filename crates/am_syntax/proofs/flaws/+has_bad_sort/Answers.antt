-- Each return and each step of the loop is by the equations of the flaw.
use Rattle.std.proofs.Common.{arith}
use Rattle.am_syntax.proofs.FlawSteps.{sort_flaws}
use Rattle.am_syntax.proofs.flaws.+has_bad_sort.Goals as goal

pub returns-then-is_relation : goal.returns-then-is_relation
returns-then-is_relation t c = grind (arith, sort_flaws)

pub returns-then-has_misfit : goal.returns-then-has_misfit
returns-then-has_misfit t c = grind (arith, sort_flaws)

pub returns-then-has_bad_sort : goal.returns-then-has_bad_sort
returns-then-has_bad_sort t c = grind (arith, sort_flaws)

pub loop-arg-preserved : goal.loop-arg-preserved
loop-arg-preserved t c = grind (arith, sort_flaws)

pub returns-in-Alone : goal.returns-in-Alone
returns-in-Alone t c = grind (arith, sort_flaws)

pub returns-after-loop-arg : goal.returns-after-loop-arg
returns-after-loop-arg t c = grind (arith, sort_flaws)
