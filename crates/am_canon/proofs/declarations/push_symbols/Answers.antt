-- Each step of the loop makes one more.
use Rattle.std.proofs.Common.{arith}
use Rattle.am_canon.proofs.DeclarationSteps.{symbol_steps}
use Rattle.am_canon.proofs.declarations.push_symbols.Goals as goal

pub loop-number-preserved : goal.loop-number-preserved
loop-number-preserved c = grind (arith, symbol_steps)
