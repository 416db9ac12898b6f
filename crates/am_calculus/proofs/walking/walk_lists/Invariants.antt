use Rattle.std.proofs.Common.{◌≡◌, Some, take}
use Rattle.std.specs.List.{flat_map}
use Rattle.am_clause.specs.Variables.{occurrences_all}
use Rattle.am_clause.specs.Walks.{walk}
use Rattle.am_calculus.proofs.walking.walk_lists.Given as goal

-- the walk over the lists so far
abbrev pub invariant-loop-list : goal.invariant-loop-list
invariant-loop-list l = walk l.initial.made (flat_map occurrences_all (take l.list-index l.lists)) ≡ Some l.made
