use Rattle.std.proofs.Common.{◌∙◌, sym, ap}
use Rattle.std.specs.Option.{option_copied}
use Rattle.am_syntax.proofs.NamingSteps.{name_of_declared, name-declared}
use Rattle.am_syntax.proofs.naming.declared_name.Goals as goal

pub returns-in-None : goal.returns-in-None
returns-in-None c = c.empty.ensures ∙ sym (name-declared c.args.declared.now c.args.number ∙ ap name_of_declared (sym c.at.ensures ∙ ap option_copied c.in-None.is))
