use Rattle.am_canon.proofs.DeclarationRead.{read_declaration_is_spellable}
use Rattle.am_canon.proofs.laws.read_declarations_can_be_spelled.Goals as goal

pub returns : goal.returns
returns c = read_declaration_is_spellable
