-- What the run of a unit by terms tells of its runs by numbers, and of the unit rules.
use Rattle.std.specs.Prelude.{◌≡◌, ℕ, Some, Ok, List, [], map}
use Rattle.am_term.specs.declared.term.Term.{Term}
use Rattle.am_world.specs.Interpretation.{Interpretation, Members}
use Rattle.am_world.specs.Value.{Assignment, values}
use Rattle.am_theory.specs.declared.theory.Theory.{Theory}
use Rattle.am_theory.specs.Facts.{WellFormed}
use Rattle.am_diagram.specs.declared.diagram.Diagram.{Diagram}
use Rattle.am_diagram.specs.Listed.{entry_names, entry_sorts}
use Rattle.am_fortran.specs.declared.unit.Unit.{Unit as Subroutine}
use Rattle.am_exec.specs.Given.{Given, Spec}
use Rattle.am_exec.specs.Run.{NumberStore, number_held, unit_run}
use Rattle.am_exec.specs.Lawful.{Lawful}
use Rattle.am_exec.specs.Right.{Right}
use Rattle.am_exec.specs.Terms.{terms}

-- where the run by terms has no fault, the unit keeps the unit rules
abbrev pub KeepsRules : Type 0
KeepsRules = (t : Theory) (d : Diagram) (u : Subroutine) (ts : List Term) → WellFormed t → terms t d u ≡ Ok ts → Lawful t d u

-- there is a run, and at its end each output holds the value of its term
pub record RunsTo (w : Interpretation) (t : Theory) (d : Diagram) (u : Subroutine) (ins : List ℕ) (a : Assignment) (ts : List Term) : Type 0 where
  pub end : NumberStore
  pub runs : unit_run w t d u ins ≡ Some end
  pub hold : map (number_held end) (entry_names d.outputs) ≡ map Some (values w ins a ts)

-- Where the run by terms has no fault, the unit runs in every interpretation, for all inputs that are
-- members of their sorts, whatever variables stand for.
abbrev pub RunsByTerms : Type 0
RunsByTerms = (w : Interpretation) (t : Theory) (d : Diagram) (u : Subroutine) (ins : List ℕ) (a : Assignment) (ts : List Term) → Members w (entry_sorts d.inputs) ins → terms t d u ≡ Ok ts → RunsTo w t d u ins a ts

-- a unit is right in an interpretation where for all inputs that meet the givens, under some assignment, the values of
-- its outputs' terms are what the diagram asks for
abbrev pub IsRightByTerms : Type 0
IsRightByTerms = (w : Interpretation) (t : Theory) (d : Diagram) (u : Subroutine) (ts : List Term) → WellFormed t → terms t d u ≡ Ok ts
    → ((ins : List ℕ) → Given w d ins → (a : Assignment) × Spec w d ins (values w ins a ts)) → Right w t d u
