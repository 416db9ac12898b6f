use Rattle.std.proofs.Common.{sym, ◌∙◌}
use Rattle.am_fortran.proofs.Drafting.{none_spelled}
use Rattle.am_fortran.proofs.spelled.item_of.Goals as goal

pub returns-else-branch : goal.returns-else-branch
returns-else-branch c = none_spelled c.args.group.now c.in_ok-item.item c.in_ok-item.ensures (sym c.in_ok-is_spelled.ensures ∙ c.if-branch.false)
