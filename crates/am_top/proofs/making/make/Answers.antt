use Rattle.am_top.specs.declared.answer.Answer.TheVariants.{Text}
use Rattle.am_top.specs.Steps.{FromDiagram}
use Rattle.am_top.proofs.Chains.{no_files, with_files, behind_files}
use Rattle.am_top.proofs.making.make.Goals as goal

pub returns-in-Err-clause-answer : goal.returns-in-Err-clause-answer
returns-in-Err-clause-answer g c =
    no_files (g.L.Library.told c.args.library.now) (g.L.Library.sure c.args.library.now) c.args.first.now c.args.second.now (FromDiagram c.args.limits _) c.in-Err.answer c.in-Err.ensures.found

pub returns-in-Ok-search_text-clause-answer : goal.returns-in-Ok-search_text-clause-answer
returns-in-Ok-search_text-clause-answer g c =
    with_files (g.L.Library.told c.args.library.now) (g.L.Library.sure c.args.library.now) c.args.first.now c.args.second.now (FromDiagram c.args.limits _) c.in-Ok.files.theory c.in-Ok.files.diagram c.in-Ok.ensures.found (Text c.in-Ok-search_text.text) c.in-Ok-search_text.ensures

pub returns-clause-answer : goal.returns-clause-answer
returns-clause-answer g c =
    behind_files (g.L.Library.told c.args.library.now) (g.L.Library.sure c.args.library.now) c.args.first.now c.args.second.now (FromDiagram c.args.limits _) c.in-Ok.files.theory c.in-Ok.files.diagram c.in-Ok.ensures.found c.in-Err-search_text.answer c.in-Err-search_text.ensures
