use Rattle.am_log.proofs.Pieces.{the_cut}
use Rattle.am_log.proofs.laws.law_of_cut.Goals as goal

pub returns : goal.returns
returns c = the_cut
