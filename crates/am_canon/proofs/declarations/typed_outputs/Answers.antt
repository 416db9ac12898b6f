-- Each step of the loop makes one more.
use Rattle.std.proofs.Common.{arith}
use Rattle.am_canon.proofs.FormSteps.{map_laws}
use Rattle.am_canon.proofs.declarations.typed_outputs.Goals as goal

pub loop-output-preserved : goal.loop-output-preserved
loop-output-preserved c = grind (arith, map_laws)
