use Rattle.std.proofs.Common.{◌≡◌, false, take}
use Rattle.std.specs.List.{list_any}
use Rattle.am_syntax.specs.Scopes.{scope_of}
use Rattle.am_syntax.specs.Flaws.{has_bad_sort}
use Rattle.am_syntax.proofs.flaws.+has_bad_sort.Given as goal

-- none of the arguments so far has it
abbrev pub invariant-loop-arg : goal.invariant-loop-arg
invariant-loop-arg l = list_any (has_bad_sort (scope_of l.scope)) (take l.arg-index l.arg-items) ≡ false
