-- what was made, and what is left, is all
use Rattle.std.specs.Prelude.{◌≡◌, ◌++◌, length}
use Rattle.am_search.specs.Starting.{clause_rows_of}
use Rattle.am_search.proofs.starting.add_clauses.Given as goal

abbrev pub invariant-loop-rest : goal.invariant-loop-rest
invariant-loop-rest l = l.out.items ++ clause_rows_of l.k l.number l.rest ≡ l.fn.out.items ++ clause_rows_of l.k 1 l.clauses

abbrev pub decreases-loop-rest : goal.decreases-loop-rest
decreases-loop-rest l = length l.rest
