use Rattle.std.proofs.Common.{◌≡◌, ◌+◌, ◌++◌, length}
use Rattle.am_diagram.specs.Clauses.{entry_variables_from}
use Rattle.am_diagram.proofs.clauses.variables_from.Given as goal

-- what was made, and what is left to make, is all; a number goes with each
abbrev pub invariant-loop-rest : goal.invariant-loop-rest
invariant-loop-rest l = (l.made ++ entry_variables_from l.number l.rest ≡ entry_variables_from l.first l.variables) × (l.number + length l.rest ≡ l.first + length l.variables)

abbrev pub decreases-loop-rest : goal.decreases-loop-rest
decreases-loop-rest l = length l.rest
