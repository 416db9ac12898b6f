use Rattle.am_top.specs.declared.answer.Answer.TheVariants.{Text}
use Rattle.am_top.proofs.Dispatch.{picked_at, make_done, check_done, demo_done}
use Rattle.am_top.proofs.answering.answer_command.Goals as goal

pub returns-in-Make-clause-answer : goal.returns-in-Make-clause-answer
returns-in-Make-clause-answer g c =
    make_done Text (g.L.Library.told c.args.library.now) (g.L.Library.sure c.args.library.now) _ c.args.command.now c.make.result c.in-Make.theory c.in-Make.diagram c.in-Make.budget c.in-Make.weight c.in-Make.choose _ c.in-Make.is
    (picked_at _ c.args.choosers.items c.in-Make.choose c.take_chooser-chooser.result c.take_chooser-chooser.ensures) c.make.ensures.answer

pub returns-in-Check-clause-answer : goal.returns-in-Check-clause-answer
returns-in-Check-clause-answer g c =
    check_done Text (g.L.Library.told c.args.library.now) (g.L.Library.sure c.args.library.now) _ c.args.command.now c.examine.result c.in-Check.theory c.in-Check.diagram c.in-Check.text c.in-Check.is c.examine.ensures.answer

pub returns-in-Demo-clause-answer : goal.returns-in-Demo-clause-answer
returns-in-Demo-clause-answer g c =
    demo_done Text (g.L.Library.told c.args.library.now) (g.L.Library.sure c.args.library.now) _ c.args.command.now c.demonstrate.result c.in-Demo.k _ c.in-Demo.is (picked_at _ c.args.choosers.items 0 c.take_chooser.result c.take_chooser.ensures) c.demonstrate.ensures
