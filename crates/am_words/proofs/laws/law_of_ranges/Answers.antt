use Rattle.am_words.proofs.Ranges.{ranges_hold}
use Rattle.am_words.proofs.laws.law_of_ranges.Goals as goal

pub returns : goal.returns
returns c = ranges_hold
