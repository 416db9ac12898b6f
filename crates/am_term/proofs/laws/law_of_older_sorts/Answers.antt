use Rattle.am_term.proofs.Older.{fits-older, akin-older}
use Rattle.am_term.proofs.laws.law_of_older_sorts.Goals as goal

pub returns : goal.returns
returns c = record { fits = fits-older; akin = akin-older }
