use Rattle.std.proofs.lemmas.Result.{on_ok_weaker}
use Rattle.am_theory.specs.Contents.{contents}
use Rattle.am_theory.proofs.AddSteps.{routine-made}
use Rattle.am_theory.proofs.adding.add_routine.Goals as goal

pub returns : goal.returns
returns c =
    on_ok_weaker c.call_routine.result
    (routine-made (contents c.args.tables.now.theory) (contents c.add_outputs.new.tables.theory) (contents c.call_routine.new.tables.theory) c.args.name c.args.inputs.now c.args.outputs.now c.in_ok-sort_numbers.field-0 c.in_ok-output_numbers.field-0 c.in_ok-add_outputs.ensures c.in_ok-sort_numbers.ensures c.in_ok-output_numbers.ensures)
    c.call_routine.ensures
