use Rattle.am_syntax.proofs.FormAgain.{read_term_is_its_form}
use Rattle.am_syntax.proofs.laws_of_shapes.read_terms_are_their_forms.Goals as goal

pub returns : goal.returns
returns c = read_term_is_its_form
