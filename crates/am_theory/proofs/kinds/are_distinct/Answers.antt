use Rattle.std.proofs.Common.{◌≡◌, ◌∙◌, false, arith}
use Rattle.std.proofs.lemmas.Grind.{common_steps}
use Rattle.am_term.specs.NameLists.{is_among}
use Rattle.am_theory.proofs.Distinct.{distinct-start, distinct-on}
use Rattle.am_theory.proofs.kinds.are_distinct.Goals as goal

pub loop-one-init : goal.loop-one-init
loop-one-init c = distinct-start c.new-seen.result.names c.args.typed.now c.new-seen.ensures

pub loop-one-preserved : goal.loop-one-preserved
loop-one-preserved c =
    let unseen : is_among c.one-item.result.name c.loop-one.seen.names ≡ false = grind (arith, common_steps) in
    distinct-on c.loop-one.seen.names c.in_ok-seen.seen.names c.args.typed.now c.loop-one.one-index c.one-item.result c.loop-one-test.true c.one-item.is c.in_ok-seen.ensures unseen ∙ c.loop-one.invariant
