-- For private contracts: the units by which the processed rows rewrite.
use Rattle.std.specs.Prelude.{ℕ, List}
use Rattle.am_clause.specs.declared.row.Row.{Row}
use Rattle.am_search.specs.Members.{processed, clause_rows}
use Rattle.am_simplify.specs.Units.{units}
use Rattle.am_simplify.specs.declared.step.Unit.{Unit}
use Rattle.am_term.specs.declared.signature.Signature.{Signature}

-- the units among the axiom rows, so many, and the chosen rows
abbrev pub processed_units : Signature → ℕ → List Row → List ℕ → List Unit
processed_units sig axioms rows choices = units sig (clause_rows (processed axioms rows choices))
