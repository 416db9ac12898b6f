use Rattle.std.proofs.Common.{◌∙◌, sym, arith}
use Rattle.am_term.specs.NameLists.{is_among}
use Rattle.am_theory.proofs.AddSteps.{variables-on, variables-end}
use Rattle.am_theory.proofs.adding.with_variables.Goals as goal

pub loop-one-preserved : goal.loop-one-preserved
loop-one-preserved c = λ q. variables-on q c.args.typed.now c.loop-one.one-index c.one-item.result (is_among q c.loop-one.variables.names) (is_among q c.in_ok-variables.variables.names) c.loop-one-test.true c.one-item.is (c.in_ok-variables.ensures q) ∙ c.loop-one.invariant q

pub returns : goal.returns
returns c = λ q. sym (variables-end q c.args.typed.now c.loop-one.one-index (is_among q c.loop-one.variables.names) (omega arith)) ∙ c.loop-one.invariant q
