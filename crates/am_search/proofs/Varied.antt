-- Which terms are variables.
use Rattle.std.proofs.lemmas.Grind.{common_steps}
use Rattle.am_term.specs.Variables.{is_variable-Var, is_variable-In, is_variable-App}

pub ruleset kinds = (common_steps, is_variable-Var, is_variable-In, is_variable-App)
