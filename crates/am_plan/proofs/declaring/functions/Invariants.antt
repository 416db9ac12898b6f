use Rattle.std.proofs.Common.{◌≡◌, map, take}
use Rattle.am_plan.specs.Plan.{called_function_decl}
use Rattle.am_plan.proofs.Declared.{used}
use Rattle.am_plan.proofs.declaring.functions.Given as goal

-- the functions that the calls so far use are declared
abbrev pub invariant-loop-call : goal.invariant-loop-call
invariant-loop-call l = l.made ≡ map (called_function_decl l.theory) (used l.theory (take l.call-index l.calls))
