use Rattle.std.proofs.Common.{◌≡◌, map, take}
use Rattle.am_theory.specs.Contents.{contents, variable_of}
use Rattle.am_theory.proofs.adding.typed_numbers.Given as goal

abbrev pub invariant-loop-one : goal.invariant-loop-one
invariant-loop-one l = l.made ≡ map (variable_of (contents l.tables.theory)) (take l.one-index l.typed)
