-- Each step of the loop makes one more.
use Rattle.std.proofs.Common.{arith}
use Rattle.am_canon.proofs.FormSteps.{map_laws}
use Rattle.am_canon.proofs.declaration_forms.names_form.Goals as goal

pub loop-name-preserved : goal.loop-name-preserved
loop-name-preserved c = grind (arith, map_laws)
