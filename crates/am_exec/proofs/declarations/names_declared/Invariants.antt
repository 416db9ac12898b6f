use Rattle.std.proofs.Common.{◌≡◌, ◌++◌, length}
use Rattle.am_exec.specs.ItemFaults.{declared_names}
use Rattle.am_exec.proofs.declarations.names_declared.Given as goal

-- the names so far, with those of what is left, are all
abbrev pub invariant-loop-rest : goal.invariant-loop-rest
invariant-loop-rest l = l.names ++ declared_names l.rest ≡ declared_names l.declarations

abbrev pub decreases-loop-rest : goal.decreases-loop-rest
decreases-loop-rest l = length l.rest
