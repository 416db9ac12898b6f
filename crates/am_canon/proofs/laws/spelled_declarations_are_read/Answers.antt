use Rattle.am_canon.proofs.DeclarationAgain.{declaration_again}
use Rattle.am_canon.proofs.laws.spelled_declarations_are_read.Goals as goal

pub returns : goal.returns
returns c = declaration_again
