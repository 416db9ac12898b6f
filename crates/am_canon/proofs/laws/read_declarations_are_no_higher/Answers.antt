use Rattle.am_canon.proofs.DeclarationRead.{declaration_no_higher}
use Rattle.am_canon.proofs.laws.read_declarations_are_no_higher.Goals as goal

pub returns : goal.returns
returns c = declaration_no_higher
