use Rattle.am_canon.proofs.DeclarationSteps.{names-profiles}
use Rattle.am_canon.proofs.declarations.axiom_formula.Goals as goal

pub returns : goal.returns
returns c = rw names-profiles (rw (c.as_slice.ensures, c.as_slice-2.ensures) at c.named_formula.ensures)
