-- The arguments of a term are those of its node.
use Rattle.std.proofs.Common.{◌≡◌, ◌∙◌, refl, ap}
use Rattle.am_term.specs.declared.term.Term.{Term}
use Rattle.am_term.specs.declared.term.Term.TheOpen.{Term-F}
use Rattle.am_term.specs.declared.term.Term.TheViews.{out-Term, roll-Term, out-roll-Term}
use Rattle.am_term.specs.Place.{args_at, args_of}
use Rattle.am_order.specs.Parts.{arguments_of_node}

at-node : (x : Term-F Term) → args_at x ≡ arguments_of_node x
at-node (Term-F.Var n s) = refl
at-node (Term-F.In k) = refl
at-node (Term-F.App f ts) = refl

pub args_of-node : (t : Term) → args_of t ≡ arguments_of_node (out-Term t)
unfolding args_of
args_of-node t = at-node (out-Term t)

pub args_of-roll : (x : Term-F Term) → args_of (roll-Term x) ≡ arguments_of_node x
args_of-roll x = args_of-node (roll-Term x) ∙ ap (λ (y : Term-F Term). arguments_of_node y) (out-roll-Term x)
