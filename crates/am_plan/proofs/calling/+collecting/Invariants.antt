use Rattle.std.proofs.Common.{◌≡◌, take}
use Rattle.am_clause.specs.Distinct.{with_new}
use Rattle.am_plan.specs.Calls.{same_call, asks_for}
use Rattle.am_plan.proofs.calling.+collecting.Given as goal

-- the calls of the terms so far are seen
abbrev pub invariant-collect_all-loop-term : goal.invariant-collect_all-loop-term
invariant-collect_all-loop-term l = l.seen.calls ≡ with_new same_call l.initial.seen.calls (asks_for l.theory (take l.term-index l.terms))
