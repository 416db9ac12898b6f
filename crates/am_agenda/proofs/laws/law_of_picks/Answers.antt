use Rattle.am_agenda.proofs.Unbeaten.{picks_are_best}
use Rattle.am_agenda.proofs.laws.law_of_picks.Goals as goal

pub returns : goal.returns
returns c = picks_are_best
