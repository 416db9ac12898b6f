use Rattle.am_syntax.proofs.SpelledRead.{spelled_term_is_read}
use Rattle.am_syntax.proofs.laws_of_shapes.spelled_terms_are_read.Goals as goal

pub returns : goal.returns
returns c = spelled_term_is_read
