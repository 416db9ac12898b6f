use Rattle.std.proofs.Common.{◌≡◌, ◌++◌, drop}
use Rattle.am_simplify.specs.Places.{places_all}
use Rattle.am_simplify.proofs.placing.+placing.Given as goal

-- what was found, and what is left, is all
abbrev pub invariant-add_all-loop-term : goal.invariant-add_all-loop-term
invariant-add_all-loop-term l = l.out ++ places_all l.k (drop l.term-index l.terms) l.path ≡ l.fn.out ++ places_all 1 l.terms l.path
