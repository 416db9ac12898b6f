use Rattle.am_log.proofs.Parts.{found_split}
use Rattle.am_log.proofs.split.proof_length.Goals as goal

pub returns-clause-split : goal.returns-clause-split
returns-clause-split c = found_split c.args.text.now c.first_without.result c.first_without.ensures
