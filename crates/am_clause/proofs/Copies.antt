-- Copies of clauses and of lists of terms.
use Rattle.std.proofs.lemmas.Grind.{common_steps}
use Rattle.std.proofs.lemmas.Bool.Decides.{nat_tests}
use Rattle.std.proofs.lemmas.List.{take_more}

pub ruleset copying = (common_steps, nat_tests, take_more)
