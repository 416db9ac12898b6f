use Rattle.std.proofs.Common.{◌≡◌, ◌++◌, length}
use Rattle.am_diagram.specs.Drafts.{bound_variables_from}
use Rattle.am_diagram.proofs.scopes.with_variables.Given as goal

-- what was made, and what is left to make, is all
abbrev pub invariant-loop-rest : goal.invariant-loop-rest
invariant-loop-rest l = l.bound.entries ++ bound_variables_from l.number l.rest ≡ l.fn.bound.entries ++ bound_variables_from l.first l.variables

abbrev pub decreases-loop-rest : goal.decreases-loop-rest
decreases-loop-rest l = length l.rest
