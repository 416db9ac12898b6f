-- The rows at the start of a search.
use Rattle.std.specs.Prelude.{[], ℕ, List, ◌∷◌, ◌+◌, ◌++◌}
use Rattle.am_clause.specs.ClauseForm.{cnf}
use Rattle.am_clause.specs.declared.clause.Clause.{Clause}
use Rattle.am_clause.specs.declared.row.Row.{Row}
use Rattle.am_clause.specs.declared.row.Rule.TheVariants as R
use Rattle.am_diagram.specs.Clauses.{goal, givens}
use Rattle.am_diagram.specs.Steps.{formulas_of}
use Rattle.am_diagram.specs.declared.diagram.Diagram.{Diagram}
use Rattle.am_term.specs.declared.term.Formula.{Formula}
use Rattle.am_theory.specs.declared.theory.Theory.{Theory}

-- a clause of an axiom, by the axiom's number and its own
abbrev pub axiom_row : ℕ → ℕ → Clause → Row
axiom_row k c clause = record { rule = R.Axiom k c; with = []; clause = clause }

abbrev pub goal_row : Clause → Row
goal_row clause = record { rule = R.Goal; with = []; clause = clause }

abbrev pub given_row : ℕ → Clause → Row
given_row k clause = record { rule = R.Given k; with = []; clause = clause }

-- the clauses of an axiom in order, of which the first has the number c
abbrev pub clause_rows_of : ℕ → ℕ → List Clause → List Row
clause_rows_of k c [] = []
clause_rows_of k c (clause ∷ clauses) = axiom_row k c clause ∷ clause_rows_of k (c + 1) clauses

-- the clauses of the axioms in order, of which the first has the number k
abbrev pub axiom_rows : ℕ → List Formula → List Row
axiom_rows k [] = []
axiom_rows k (f ∷ fs) = clause_rows_of k 1 (cnf f) ++ axiom_rows (k + 1) fs

-- the givens in order, of which the first has the number k
abbrev pub given_rows : ℕ → List Clause → List Row
given_rows k [] = []
given_rows k (clause ∷ clauses) = given_row k clause ∷ given_rows (k + 1) clauses

-- the axiom rows, the goal, and the givens in order
abbrev pub rows_at_first : List Row → Clause → List Clause → List Row
rows_at_first axioms goal_clause given_clauses = axioms ++ goal_row goal_clause ∷ given_rows 1 given_clauses

-- the rows of a theory's axioms
abbrev pub theory_rows : Theory → List Row
theory_rows t = axiom_rows 1 (formulas_of t)

-- the rows at the start of the search of a theory and a diagram
abbrev pub starting_rows : Theory → Diagram → List Row
starting_rows t d = rows_at_first (theory_rows t) (goal d) (givens d)
