use Rattle.std.proofs.Common.{◌≡◌, take}
use Rattle.am_clause.specs.Distinct.{with_new}
use Rattle.am_clause.specs.Variables.{same_variable}
use Rattle.am_rules.specs.Row.{in_lists}
use Rattle.am_rules.proofs.rows.collect_lists.Given as goal

-- the variables of the lists so far are seen
abbrev pub invariant-loop-terms : goal.invariant-loop-terms
invariant-loop-terms l = l.seen ≡ with_new same_variable l.initial.seen (in_lists (take l.terms-index l.lists))
