-- Tests of lists, element by element.
use Rattle.std.proofs.lemmas.Grind.{common_steps}
use Rattle.std.proofs.lemmas.Bool.Decides.{nat_tests}
use Rattle.std.proofs.lemmas.List.Folds.{list_all_more, list_all_at}

pub ruleset test_laws = (common_steps, nat_tests, list_all_more, list_all_at)
