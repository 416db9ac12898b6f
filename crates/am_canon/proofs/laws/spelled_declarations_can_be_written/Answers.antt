use Rattle.am_canon.proofs.DeclarationWritten.{declaration_written}
use Rattle.am_canon.proofs.laws.spelled_declarations_can_be_written.Goals as goal

pub returns : goal.returns
returns c = declaration_written
