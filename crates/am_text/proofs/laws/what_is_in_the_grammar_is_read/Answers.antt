use Rattle.am_text.proofs.Converse.{read_again}
use Rattle.am_text.proofs.laws.what_is_in_the_grammar_is_read.Goals as goal

pub returns : goal.returns
returns c = λ limit depth bytes forms r. read_again limit depth bytes forms r
