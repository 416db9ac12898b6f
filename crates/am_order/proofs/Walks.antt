-- Going over terms and their arguments.
use Rattle.std.proofs.lemmas.Grind.{common_steps}
use Rattle.std.proofs.lemmas.Bool.Decides.{nat_tests}
use Rattle.am_term.specs.declared.term.Term.TheViews.{the_lemmas}
use Rattle.am_term.specs.Weight.{nodes-Var, nodes-In, nodes-App}
use Rattle.am_order.proofs.Shapes.{shapes, greater-Var, greater-In-Var, greater-In-In, greater-In-App, greater-App-Var, greater-App-In}
use Rattle.am_order.proofs.Lists.{lists, nodes-le-sum, nodes-drop}
use Rattle.am_order.proofs.Quick.{greater-above, greater-below, ended-left, ended-right, differ-greater, differ-lesser, front-none, front-ends, front-same, front-differ}
use Rattle.am_order.proofs.Trans.{greater-asymmetric}

pub ruleset walks = (common_steps, nat_tests, the_lemmas, nodes-Var, nodes-In, nodes-App, shapes, lists)

pub ruleset quick_walks = (common_steps, nat_tests, the_lemmas, nodes-Var, nodes-In, nodes-App, nodes-le-sum, nodes-drop, greater-Var, greater-In-Var, greater-In-In, greater-In-App, greater-App-Var, greater-App-In, greater-above, greater-below, ended-left, ended-right, differ-greater, differ-lesser)

pub ruleset front_walks = (common_steps, front-none, front-ends, front-same, front-differ)

pub ruleset sides = (common_steps, greater-asymmetric)
