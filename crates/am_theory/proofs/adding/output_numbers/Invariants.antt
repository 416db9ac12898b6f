use Rattle.std.proofs.Common.{◌≡◌, ◌++◌, length}
use Rattle.am_theory.specs.Contents.{contents, numbers_from}
use Rattle.am_theory.proofs.adding.output_numbers.Given as goal

abbrev pub invariant-loop-rest : goal.invariant-loop-rest
invariant-loop-rest l = l.made ++ numbers_from l.number l.rest ≡ numbers_from (length (contents l.tables.theory).symbols) l.outputs

abbrev pub decreases-loop-rest : goal.decreases-loop-rest
decreases-loop-rest l = length l.rest
