-- When a unit solves a diagram.
use Rattle.std.specs.Prelude.{◌≡◌, ℕ, Some, List, map}
use Rattle.am_world.specs.Interpretation.{Interpretation}
use Rattle.am_theory.specs.declared.theory.Theory.{Theory}
use Rattle.am_diagram.specs.declared.diagram.Diagram.{Diagram}
use Rattle.am_diagram.specs.Listed.{entry_names}
use Rattle.am_fortran.specs.declared.unit.Unit.{Unit as Subroutine}
use Rattle.am_exec.specs.Given.{Given, Spec}
use Rattle.am_exec.specs.Lawful.{Lawful}
use Rattle.am_exec.specs.Run.{NumberStore, number_held, unit_run}

-- There is a run, each output holds a number at its end, and these numbers are what the diagram asks for.
pub record Solves (w : Interpretation) (t : Theory) (d : Diagram) (u : Subroutine) (ins : List ℕ) : Type 0 where
  pub end : NumberStore
  pub runs : unit_run w t d u ins ≡ Some end
  pub outs : List ℕ
  pub hold : map (number_held end) (entry_names d.outputs) ≡ map Some outs
  pub meets : Spec w d ins outs

-- The unit is lawful, and it solves the diagram for all inputs that meet the givens.
pub record Right (w : Interpretation) (t : Theory) (d : Diagram) (u : Subroutine) : Type 0 where
  pub lawful : Lawful t d u
  pub solves : (ins : List ℕ) → Given w d ins → Solves w t d u ins
