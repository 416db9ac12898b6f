use Rattle.std.proofs.Common.{◌≡◌, ◌++◌, length}
use Rattle.am_theory.specs.Contents.{contents, bound_from}
use Rattle.am_theory.proofs.kinds.bound_from.Given as goal

abbrev pub invariant-loop-rest : goal.invariant-loop-rest
invariant-loop-rest l = l.made.entries ++ bound_from (contents l.tables.theory) l.number l.rest ≡ bound_from (contents l.tables.theory) 0 l.variables

abbrev pub decreases-loop-rest : goal.decreases-loop-rest
decreases-loop-rest l = length l.rest
