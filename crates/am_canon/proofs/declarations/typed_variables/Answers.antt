-- Each step of the loop makes one more.
use Rattle.std.proofs.Common.{arith}
use Rattle.am_canon.proofs.FormSteps.{map_laws}
use Rattle.am_canon.proofs.declarations.typed_variables.Goals as goal

pub loop-variable-preserved : goal.loop-variable-preserved
loop-variable-preserved c = grind (arith, map_laws)
