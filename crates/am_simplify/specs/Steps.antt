-- What a normal step is: it follows from the clause, and from that of a row where one rewrites it.
use Rattle.std.specs.Prelude.{◌≡◌, ℕ, List, Some, slice_get, IsTrue}
use Rattle.am_term.specs.declared.id.SortId.{SortId}
use Rattle.am_term.specs.declared.signature.Signature.{Signature}
use Rattle.am_clause.specs.Numbered.{IsNumbered}
use Rattle.am_clause.specs.Rules.{reflex, rewrite}
use Rattle.am_clause.specs.SortedClause.{is_sorted_clause}
use Rattle.am_clause.specs.declared.clause.Clause.{Clause}
use Rattle.am_clause.specs.declared.row.Made.{Made}
use Rattle.am_clause.specs.declared.row.Side.{Side}
use Rattle.am_rules.specs.Inference.{IsStepOfOne, IsStepOfTwo}
use Rattle.am_simplify.specs.Reasons.{NumberedClause}
use Rattle.am_simplify.specs.Units.{unit_side}
use Rattle.am_simplify.specs.declared.step.StepRule.{StepRule}
use Rattle.am_simplify.specs.declared.step.StepRule.TheVariants.{Reflex, Rewrite}

-- a numbered, well sorted clause
pub record IsProper (sig : Signature) (ins : List SortId) (c : Clause) : Type 0 where
  pub numbered : IsNumbered c
  pub sorted : IsTrue (is_sorted_clause sig ins c)

module _ (sig : Signature) (ins : List SortId) (rows : List NumberedClause) (c : Clause) where
  -- a row of this number is a unit that is used from this side, and rewrites the clause
  pub record IsRewritten (row : ℕ) (side : Side) (i : ℕ) (path : List ℕ) (m : Made) : Type 0 where
    pub place : ℕ
    pub unit : Clause
    pub there : slice_get rows place ≡ Some (row, unit)
    pub oriented : unit_side sig unit ≡ Some side
    pub step : IsStepOfTwo sig ins m (rewrite 1 side i path) unit c

  -- the conclusion follows by the rule, is well sorted and numbered
  abbrev pub IsStepBy : StepRule → Made → Type 0
  IsStepBy (Reflex i) m = IsStepOfOne sig ins m (reflex i) c
  IsStepBy (Rewrite row side i path) m = IsRewritten row side i path m
