use Rattle.am_syntax.proofs.Writable.{spelled_term_writable}
use Rattle.am_syntax.proofs.laws_of_shapes.spelled_terms_can_be_written.Goals as goal

pub returns : goal.returns
returns c = spelled_term_writable
