use Rattle.std.proofs.Common.{◌∙◌, ◌++◌, ◌∷◌, [], sym, ap}
use Rattle.am_unify.specs.Opening.{starts_below}
use Rattle.am_unify.proofs.Walks.{insert_done}
use Rattle.am_rules.proofs.matching.inserted.Goals as goal

pub returns : goal.returns
returns c = insert_done c.args.n c.args.term c.args.found c.below.made c.below.rest c.push-2.new.self c.append.new.self c.below.invariant.1 (ap (λ x. starts_below x c.args.n) (sym c.as_slice.ensures) ∙ (sym c.first_below.ensures ∙ c.below-test.false)) (c.in_ok-push-2.ensures.ok ∙ ap (λ x. c.below.made ++ (c.args.n, x) ∷ []) c.below.invariant.0) c.in_ok-append.ensures
