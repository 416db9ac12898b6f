use Rattle.std.proofs.Common.{◌≡◌, take}
use Rattle.am_clause.specs.Distinct.{with_new}
use Rattle.am_clause.specs.Variables.{same_variable, occurrences_all}
use Rattle.am_rules.proofs.rows.+collecting.Given as goal

-- the variables of the terms so far are seen
abbrev pub invariant-collect_all-loop-term : goal.invariant-collect_all-loop-term
invariant-collect_all-loop-term l = l.seen ≡ with_new same_variable l.initial.seen (occurrences_all (take l.term-index l.terms))
