use Rattle.am_unify.specs.Occurrence.{count_of_numbers}
use Rattle.am_shared_unify.specs.Sides.{term_sides}
use Rattle.am_shared_unify.proofs.solving.+solve.Given as goal

abbrev pub decreases-solve : goal.decreases-solve
decreases-solve l = count_of_numbers (term_sides l.bank.now l.pairs)
