use Rattle.std.proofs.Common.{◌≤◌, take}
use Rattle.am_term.specs.Span.{spans}
use Rattle.am_term.proofs.substitution.+is_covered.Given as goal

-- the arguments so far are covered
abbrev pub invariant-loop-arg : goal.invariant-loop-arg
invariant-loop-arg l = spans (take l.arg-index l.arg-items) ≤ l.count
