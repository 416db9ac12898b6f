-- What is made of a log over a theory and a diagram.
use Rattle.std.specs.Prelude.{◌≡◌, ◌<◌, ◌≤◌, ℕ, List, ◌++◌, length}
use Rattle.am_term.specs.declared.term.Term.{Term}
use Rattle.am_clause.specs.declared.row.Log.{Log}
use Rattle.am_world.specs.Interpretation.{Interpretation}
use Rattle.am_world.specs.Truth.{Models}
use Rattle.am_theory.specs.declared.theory.Theory.{Theory}
use Rattle.am_diagram.specs.declared.diagram.Diagram.{Diagram}
use Rattle.am_diagram.specs.Steps.{formulas_of}
use Rattle.am_log.specs.Text.{byte_limit, log_text}
use Rattle.am_fortran.specs.Text.{unit_text}
use Rattle.am_fortran.specs.declared.unit.Unit.{Unit as Subroutine}
use Rattle.am_exec.specs.Given.{Given}
use Rattle.am_plan.specs.Plan.{IsPlan}
use Rattle.am_check.specs.Accepted.{EndsWith, Accepted}
use Rattle.am_product.specs.declared.outcome.Product.{Product}
use Rattle.am_product.specs.declared.outcome.Product.TheVariants.{Text, Long}

-- The text is that of a log, followed by that of the unit that is the plan of its last row's answer.
pub record IsProduct (t : Theory) (d : Diagram) (log : Log) (text : List ℕ) : Type 0 where
  pub answer : List Term
  pub ends : EndsWith log.rows answer
  pub unit : Subroutine
  pub planned : IsPlan t d answer unit
  pub is : text ≡ log_text t d log ++ unit_text unit

-- what is made of a log: its product, where that is no longer than a text may be and is accepted; or that it is longer
abbrev pub Produces : Theory → Diagram → Log → Product → Type 0
Produces t d log (Text text) = IsProduct t d log text.items × (length text.items ≤ byte_limit) × Accepted t d text.items
Produces t d log Long = (text : List ℕ) × IsProduct t d log text × (byte_limit < length text)

-- in no model of the axioms any inputs meet the givens
abbrev pub AreRefuted : Theory → Diagram → Type 0
AreRefuted t d = (w : Interpretation) → Models t.sig (formulas_of t) w → (ins : List ℕ) → Given w d ins → ⊥
