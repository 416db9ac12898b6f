-- Each step of the loop makes one more.
use Rattle.std.proofs.Common.{arith}
use Rattle.am_canon.proofs.FormSteps.{map_laws}
use Rattle.am_canon.proofs.declaration_forms.with_all_typed.Goals as goal

pub loop-typed-preserved : goal.loop-typed-preserved
loop-typed-preserved c = grind (arith, map_laws)
