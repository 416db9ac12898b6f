use Rattle.std.proofs.Common.{◌≡◌, ◌++◌, length}
use Rattle.am_rules.specs.Replacing.{put_instances}
use Rattle.am_rules.proofs.replacing.instances_put.Given as goal

-- what was made, and what is left, is all
abbrev pub invariant-all : goal.invariant-all
invariant-all l = put_instances l.i l.new l.path l.with l.literals ≡ l.made ++ put_instances l.left l.new l.path l.with l.rest

abbrev pub decreases-all : goal.decreases-all
decreases-all l = length l.rest
