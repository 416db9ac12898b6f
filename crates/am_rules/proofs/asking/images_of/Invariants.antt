use Rattle.std.proofs.Common.{◌≡◌, ◌++◌, length}
use Rattle.am_rules.specs.Solving.{images}
use Rattle.am_rules.proofs.asking.images_of.Given as goal

-- what was made, and what is left, is all
abbrev pub invariant-images : goal.invariant-images
invariant-images l = images l.found l.k l.variables ≡ l.made ++ images l.found l.k l.rest

abbrev pub decreases-images : goal.decreases-images
decreases-images l = length l.rest
