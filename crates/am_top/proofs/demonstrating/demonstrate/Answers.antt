use Rattle.am_top.specs.declared.answer.Answer.TheVariants.{Text}
use Rattle.am_top.proofs.Chains.{demo_no_diagram, demo_printed, demo_behind}
use Rattle.am_top.proofs.demonstrating.demonstrate.Goals as goal

pub returns-in-Err : goal.returns-in-Err
returns-in-Err g c = demo_no_diagram c.args.k _ c.in_ok-theory.theory c.in_ok-theory.ensures c.in-Err.answer c.in-Err.ensures

pub returns-in-Ok-sum_up : goal.returns-in-Ok-sum_up
returns-in-Ok-sum_up g c = demo_printed c.args.k _ c.in_ok-theory.theory c.in_ok-theory.ensures c.in-Ok.diagram c.in-Ok.ensures (Text c.in-Ok-sum_up.text) c.in-Ok-sum_up.ensures

pub returns : goal.returns
returns g c = demo_behind c.args.k _ c.in_ok-theory.theory c.in_ok-theory.ensures c.in-Ok.diagram c.in-Ok.ensures c.in-Err-sum_up.answer c.in-Err-sum_up.ensures
