-- The steps of a proof over a theory and a diagram.
use Rattle.std.specs.Prelude.{List, [], map}
use Rattle.am_term.specs.declared.term.Formula.{Formula}
use Rattle.am_clause.specs.declared.row.Row.{Row}
use Rattle.am_clause.specs.Sources.{sources_of}
use Rattle.am_clause.specs.Steps.{Sources, IsStep, AreSteps}
use Rattle.am_theory.specs.declared.theory.Axiom.{Axiom}
use Rattle.am_theory.specs.declared.theory.Theory.{Theory}
use Rattle.am_diagram.specs.declared.diagram.Diagram.{Diagram}
use Rattle.am_diagram.specs.Clauses.{goal, givens}
use Rattle.am_diagram.specs.Listed.{entry_sorts}

-- the formulas of the theory's axioms, in order
abbrev pub formulas_of : Theory → List Formula
formulas_of t = map (λ (a : Axiom). a.formula) t.axioms

-- what a proof starts from: the clauses of each axiom, the goal, the givens
abbrev pub sources : Theory → Diagram → Sources
sources t d = sources_of (formulas_of t) (goal d) (givens d)

-- The row follows by its rule from the rows before it, is well sorted, and is numbered.
abbrev pub Step : Theory → Diagram → List Row → Row → Type 0
Step t d rows row = IsStep t.sig (entry_sorts d.inputs) (sources t d) rows row

-- each row is a step after those before it
abbrev pub IsProof : Theory → Diagram → List Row → Type 0
IsProof t d rows = AreSteps t.sig (entry_sorts d.inputs) (sources t d) [] rows
