use Rattle.std.proofs.Common.{◌≡◌, take}
use Rattle.am_theory.specs.Contents.{contents, sort_numbers}
use Rattle.am_theory.proofs.adding.sort_numbers.Given as goal

abbrev pub invariant-loop-name : goal.invariant-loop-name
invariant-loop-name l = l.made ≡ sort_numbers (contents l.tables.theory) (take l.name-index l.names)
