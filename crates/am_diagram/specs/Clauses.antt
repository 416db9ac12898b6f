-- The goal and the givens of a diagram as clauses.
use Rattle.std.specs.Prelude.{◌+◌, ℕ, Some, List, [], ◌∷◌, map, length}
use Rattle.am_term.specs.declared.id.SortId.{SortId}
use Rattle.am_term.specs.declared.term.Term.{Term}
use Rattle.am_term.specs.declared.term.Term.TheVariants.{Var}
use Rattle.am_clause.specs.declared.clause.Clause.{Clause}
use Rattle.am_clause.specs.Renaming.{renumbered}
use Rattle.am_clause.specs.Goals.{given_clause, negated}
use Rattle.am_diagram.specs.declared.diagram.Diagram.{Diagram}

-- variables of these sorts, numbered from n
abbrev pub entry_variables_from : ℕ → List (List ℕ × SortId) → List Term
entry_variables_from n [] = []
entry_variables_from n (e ∷ es) = Var n e.1 ∷ entry_variables_from (n + 1) es

-- the outputs as variables: they follow the objects
abbrev pub output_terms : Diagram → List Term
output_terms d = entry_variables_from (length d.objects) d.outputs

-- the negated requirements in order, equal ones not merged, with the outputs' variables as answer; renumbered
unfoldable pub goal : Diagram → Clause
goal d = renumbered (record { literals = map negated d.required; answer = Some (output_terms d) })

-- one such clause for each given
unfoldable pub givens : Diagram → List Clause
givens d = map given_clause d.givens
