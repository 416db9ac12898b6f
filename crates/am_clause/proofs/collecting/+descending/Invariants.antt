use Rattle.std.proofs.Common.{◌≡◌, take}
use Rattle.am_clause.specs.Distinct.{with_new}
use Rattle.am_clause.specs.Variables.{same_variable, in_formulas}
use Rattle.am_clause.proofs.collecting.+descending.Given as goal

-- the variables of the parts so far are seen
abbrev pub invariant-collect_parts-loop-part : goal.invariant-collect_parts-loop-part
invariant-collect_parts-loop-part l = l.seen ≡ with_new same_variable l.initial.seen (in_formulas (take l.part-index l.parts))
