use Rattle.am_text.proofs.Trip.{written_again}
use Rattle.am_text.proofs.laws.what_is_written_is_read.Goals as goal

pub returns : goal.returns
returns c = λ limit depth form ok low fits. written_again limit depth form ok low fits
