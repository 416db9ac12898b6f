-- Going over nodes and their arguments.
use Rattle.std.proofs.lemmas.Grind.{common_steps}
use Rattle.std.proofs.lemmas.Bool.Decides.{nat_tests}
use Rattle.am_order.proofs.Trans.{greater-asymmetric}
use Rattle.am_sharing.proofs.Nodes.{term_at-is, same-id, bound-at, bound-drop}
use Rattle.am_sharing.proofs.Compared.{is-Var, is-In-Var, is-In-In, is-In-App, is-App-In, is-App-Var, is-above, is-below, is-ended-left, is-ended-right, front-none, front-ends, front-same, front-differ}

pub ruleset walks = (common_steps, nat_tests, same-id, bound-at, bound-drop, is-Var, is-In-Var, is-In-In, is-In-App, is-App-In, is-App-Var, is-above, is-below, is-ended-left, is-ended-right)

pub ruleset front_walks = (common_steps, nat_tests, front-none, front-ends, front-same, front-differ)

pub ruleset sides = (common_steps, greater-asymmetric, term_at-is)
