use Rattle.std.proofs.Common.{◌≡◌, false, take}
use Rattle.std.specs.List.{list_any}
use Rattle.am_unify.specs.Occurrence.{number_occurs}
use Rattle.am_unify.proofs.occurring.+number_occurs.Given as goal

-- it stands in none of the arguments so far
abbrev pub invariant-loop-arg : goal.invariant-loop-arg
invariant-loop-arg l = list_any (number_occurs l.n) (take l.arg-index l.arg-items) ≡ false
