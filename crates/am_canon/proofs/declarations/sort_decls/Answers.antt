-- Each step of the loop makes one more.
use Rattle.std.proofs.Common.{arith}
use Rattle.am_canon.proofs.DeclarationSteps.{sort_steps}
use Rattle.am_canon.proofs.declarations.sort_decls.Goals as goal

pub loop-names-preserved : goal.loop-names-preserved
loop-names-preserved c = grind (arith, sort_steps)
