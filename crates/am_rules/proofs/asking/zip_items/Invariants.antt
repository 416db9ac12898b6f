use Rattle.std.proofs.Common.{◌≡◌, ◌++◌, length}
use Rattle.std.specs.List.{zip}
use Rattle.am_rules.proofs.asking.zip_items.Given as goal

-- the pairs so far, and those of what is left
abbrev pub invariant-pairs : goal.invariant-pairs
invariant-pairs l = zip l.fn.left l.fn.right ≡ l.made ++ zip l.left l.right

abbrev pub decreases-pairs : goal.decreases-pairs
decreases-pairs l = length l.left
