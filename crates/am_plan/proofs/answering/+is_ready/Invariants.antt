use Rattle.std.proofs.Common.{◌≡◌, true, take}
use Rattle.std.specs.List.{list_all}
use Rattle.am_plan.specs.Answers.{is_ready}
use Rattle.am_plan.proofs.answering.+is_ready.Given as goal

-- the arguments so far are ready
abbrev pub invariant-loop-arg : goal.invariant-loop-arg
invariant-loop-arg l = list_all (is_ready l.signature) (take l.arg-index l.arg-items) ≡ true
