use Rattle.am_syntax.proofs.ReadSpelled.{read_term_is_spellable}
use Rattle.am_syntax.proofs.laws_of_shapes.read_terms_can_be_spelled.Goals as goal

pub returns : goal.returns
returns c = read_term_is_spellable
