use Rattle.std.proofs.Common.{◌≡◌, ◌++◌, map, length}
use Rattle.am_theory.specs.declared.theory.Routine.{Routine}
use Rattle.am_diagram.proofs.looking.with_routines.Given as goal

-- the names so far, and those that are left, are all
abbrev pub invariant-loop-rest : goal.invariant-loop-rest
invariant-loop-rest l = l.table.names ++ map (λ (r : Routine). r.name) l.rest ≡ l.fn.table.names ++ map (λ (r : Routine). r.name) l.routines

abbrev pub decreases-loop-rest : goal.decreases-loop-rest
decreases-loop-rest l = length l.rest
