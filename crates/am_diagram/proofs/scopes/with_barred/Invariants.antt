use Rattle.std.proofs.Common.{◌≡◌, ◌++◌, length}
use Rattle.am_diagram.specs.Drafts.{barred}
use Rattle.am_diagram.proofs.scopes.with_barred.Given as goal

-- what was made, and what is left to make, is all
abbrev pub invariant-loop-rest : goal.invariant-loop-rest
invariant-loop-rest l = l.bound.entries ++ barred l.rest ≡ l.fn.bound.entries ++ barred l.names

abbrev pub decreases-loop-rest : goal.decreases-loop-rest
decreases-loop-rest l = length l.rest
