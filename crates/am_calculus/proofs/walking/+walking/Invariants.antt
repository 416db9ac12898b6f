use Rattle.std.proofs.Common.{◌≡◌, Some, take}
use Rattle.am_clause.specs.Variables.{occurrences_all}
use Rattle.am_clause.specs.Walks.{walk}
use Rattle.am_calculus.proofs.walking.+walking.Given as goal

-- the walk over the terms so far
abbrev pub invariant-walk_terms-loop-term : goal.invariant-walk_terms-loop-term
invariant-walk_terms-loop-term l = walk l.initial.made (occurrences_all (take l.term-index l.terms)) ≡ Some l.made
