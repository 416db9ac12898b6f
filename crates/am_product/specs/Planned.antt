-- For private contracts: the unit of the last row.
use Rattle.std.specs.Prelude.{List}
use Rattle.am_term.specs.declared.term.Term.{Term}
use Rattle.am_clause.specs.declared.row.Row.{Row}
use Rattle.am_theory.specs.declared.theory.Theory.{Theory}
use Rattle.am_diagram.specs.declared.diagram.Diagram.{Diagram}
use Rattle.am_fortran.specs.declared.unit.Unit.{Unit as Subroutine}
use Rattle.am_plan.specs.Plan.{IsPlan}
use Rattle.am_check.specs.Accepted.{EndsWith}

-- the unit is the plan of the last row's answer
pub record IsPlanned (t : Theory) (d : Diagram) (rows : List Row) (unit : Subroutine) : Type 0 where
  pub answer : List Term
  pub ends : EndsWith rows answer
  pub is : IsPlan t d answer unit
