use Rattle.am_text.proofs.Trip.{read_writable}
use Rattle.am_text.proofs.laws.what_was_read_can_be_written.Goals as goal

pub returns : goal.returns
returns c = λ limit depth bytes forms e. read_writable limit depth bytes forms e
