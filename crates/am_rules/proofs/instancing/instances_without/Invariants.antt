use Rattle.std.proofs.Common.{◌≡◌, ◌++◌, map, length}
use Rattle.am_rules.specs.Parts.{literal_under, all_but}
use Rattle.am_rules.proofs.instancing.instances_without.Given as goal

-- what was made, and what is left, is all
abbrev pub invariant-all : goal.invariant-all
invariant-all l = map (literal_under l.with) (all_but l.i l.literals) ≡ l.made ++ map (literal_under l.with) (all_but l.left l.rest)

abbrev pub decreases-all : goal.decreases-all
decreases-all l = length l.rest
