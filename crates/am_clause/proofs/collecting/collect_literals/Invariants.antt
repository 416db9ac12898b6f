use Rattle.std.proofs.Common.{◌≡◌, take}
use Rattle.am_clause.specs.Distinct.{with_new}
use Rattle.am_clause.specs.Variables.{same_variable, in_literals}
use Rattle.am_clause.proofs.collecting.collect_literals.Given as goal

-- the variables of the literals so far are seen
abbrev pub invariant-loop-literal : goal.invariant-loop-literal
invariant-loop-literal l = l.seen ≡ with_new same_variable l.initial.seen (in_literals (take l.literal-index l.literals))
