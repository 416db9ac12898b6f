use Rattle.am_text.proofs.Trip.{lines_again}
use Rattle.am_text.proofs.laws.lines_are_read.Goals as goal

pub returns : goal.returns
returns c = λ limit depth forms ok low fits. lines_again limit depth forms ok low fits
