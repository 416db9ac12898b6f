use Rattle.am_top.proofs.Chains.{show_text}
use Rattle.am_top.specs.declared.answer.Answer.TheVariants.{Text}
use Rattle.am_top.proofs.showing.show.Goals as goal

pub returns-clause-answer : goal.returns-clause-answer
returns-clause-answer g c = show_text (g.L.Library.told c.args.library.now) (g.L.Library.sure c.args.library.now) c.args.name.now c.in_ok-theory.theory (Text c.in_ok-text.text) c.in_ok-theory.ensures.found c.in_ok-text.ensures
