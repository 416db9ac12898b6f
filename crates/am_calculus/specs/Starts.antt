-- What a proof starts from, as lists of clauses.
use Rattle.std.specs.Prelude.{List, option_and_then}
use Rattle.am_term.specs.Place.{member}
use Rattle.am_clause.specs.declared.clause.Clause.{Clause}
use Rattle.am_clause.specs.Steps.{Sources}

-- axioms by their number from 1, each with its clauses by their number from 1; givens by their number from 1
abbrev pub sources_in : List (List Clause) → Clause → List Clause → Sources
sources_in axioms asked facts = record {
  axioms = λ k c. option_and_then (λ cs. member cs c) (member axioms k);
  goal = asked;
  givens = λ k. member facts k;
}
