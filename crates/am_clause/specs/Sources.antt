-- What a proof starts from: the clauses of some formulas, a goal, and givens.
use Rattle.std.specs.Prelude.{List, option_and_then}
use Rattle.am_term.specs.declared.term.Formula.{Formula}
use Rattle.am_term.specs.Place.{member}
use Rattle.am_clause.specs.declared.clause.Clause.{Clause}
use Rattle.am_clause.specs.ClauseForm.{cnf}
use Rattle.am_clause.specs.Steps.{Sources}

-- axioms by their number from 1, each with its clauses by their number from 1; givens by their number from 1
abbrev pub sources_of : List Formula → Clause → List Clause → Sources
sources_of axioms asked facts = record {
  axioms = λ k c. option_and_then (λ f. member (cnf f) c) (member axioms k);
  goal = asked;
  givens = λ k. member facts k;
}
