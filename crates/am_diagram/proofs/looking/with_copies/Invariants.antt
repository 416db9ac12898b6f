use Rattle.std.proofs.Common.{◌≡◌, ◌++◌, length}
use Rattle.std.specs.List.{flat_map}
use Rattle.am_theory.specs.Lookups.{listed_name}
use Rattle.am_diagram.proofs.looking.with_copies.Given as goal

-- the names so far, and those that are left, are all
abbrev pub invariant-loop-rest : goal.invariant-loop-rest
invariant-loop-rest l = l.table.names ++ flat_map listed_name l.rest ≡ l.fn.table.names ++ flat_map listed_name l.copies

abbrev pub decreases-loop-rest : goal.decreases-loop-rest
decreases-loop-rest l = length l.rest
