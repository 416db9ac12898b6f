-- A symbol at terms as one term.
use Rattle.std.proofs.lemmas.Grind.{common_steps}
use Rattle.am_term.proofs.Walks.{comparisons}
use Rattle.am_plan.proofs.Declared.{head-App}

pub ruleset applying = (common_steps, comparisons, head-App)
