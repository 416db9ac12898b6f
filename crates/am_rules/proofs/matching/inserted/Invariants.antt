use Rattle.std.proofs.Common.{◌≡◌, ◌++◌, length}
use Rattle.am_unify.specs.Substitution.{insert_binding}
use Rattle.am_rules.proofs.matching.inserted.Given as goal

-- what was passed has smaller numbers
abbrev pub invariant-below : goal.invariant-below
invariant-below l = (l.term ≡ l.fn.term) × (insert_binding l.fn.n l.fn.term l.fn.found ≡ l.made ++ insert_binding l.fn.n l.fn.term l.rest)

abbrev pub decreases-below : goal.decreases-below
decreases-below l = length l.rest
