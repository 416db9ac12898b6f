use Rattle.am_syntax.proofs.FormAgain.{read_term_is_no_higher}
use Rattle.am_syntax.proofs.laws_of_shapes.read_terms_are_no_higher.Goals as goal

pub returns : goal.returns
returns c = read_term_is_no_higher
