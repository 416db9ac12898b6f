use Rattle.std.proofs.Common.{arith, sym, ◌∙◌}
use Rattle.am_exec.proofs.Answering.{inputs-few}
use Rattle.am_exec.proofs.running.symbolic.Goals as goal

pub stated-requires-clause-inputs : goal.stated-requires-clause-inputs
stated-requires-clause-inputs c =
    let few = inputs-few c.args.diagram.now c.args.unit.now (sym c.is_bad_head.ensures ∙ c.if-is_bad_head.false) in
    omega (arith, few, c.args.unit.now.few_dummies)
