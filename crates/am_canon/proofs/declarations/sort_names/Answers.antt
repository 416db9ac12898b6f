-- Each step of the loop makes one more.
use Rattle.std.proofs.Common.{arith}
use Rattle.am_canon.proofs.FormSteps.{map_laws}
use Rattle.am_canon.proofs.declarations.sort_names.Goals as goal

pub loop-sort-preserved : goal.loop-sort-preserved
loop-sort-preserved c = grind (arith, map_laws)
