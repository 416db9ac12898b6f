use Rattle.am_text.proofs.Found.{read_found}
use Rattle.am_text.proofs.laws.what_is_read_is_in_the_grammar.Goals as goal

pub returns : goal.returns
returns c = λ limit depth bytes forms e. read_found limit depth bytes forms e
