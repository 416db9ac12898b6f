use Rattle.am_canon.proofs.CanonicalTextRead.{canonical-text-read}
use Rattle.am_canon.proofs.laws.canonical_text_is_read.Goals as goal

pub returns : goal.returns
returns c = canonical-text-read
