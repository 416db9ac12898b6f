use Rattle.std.proofs.Common.{◌≡◌, take}
use Rattle.am_clause.proofs.copying.copy_lists.Given as goal

-- a copy of the lists so far
abbrev pub invariant-loop-list : goal.invariant-loop-list
invariant-loop-list l = l.made ≡ take l.list-index l.lists
