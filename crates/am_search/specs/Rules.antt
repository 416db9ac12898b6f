-- What a search asks of the calculus.
use Rattle.std.specs.Prelude.{ℕ, Option, List, Bool, ◌&&◌, is_some, option_map, None, map, ◌≡◌, if◌then◌else◌}
use Rattle.std.proofs.Common.{refl}
use Rattle.am_clause.specs.Variables.{variables}
use Rattle.am_clause.specs.declared.clause.Clause.{Clause}
use Rattle.am_clause.specs.declared.row.Row.{Row}
use Rattle.am_clause.specs.declared.row.Rule.{Rule}
use Rattle.am_rules.specs.Conclusions.{closed_off}
use Rattle.am_rules.specs.Inference.{row_of}
use Rattle.am_search.specs.Members.{Member, source_of, sourced, is_empty, clause_rows}
use Rattle.am_simplify.specs.Reasons.{too_big, reason}
use Rattle.am_simplify.specs.NormalStep.{normal_step}
use Rattle.am_search.specs.Turn.{turn}
use Rattle.am_simplify.specs.declared.reason.Reason.{Reason}
use Rattle.am_simplify.specs.declared.step.RewriteMade.{RewriteMade}
use Rattle.am_simplify.specs.declared.step.StepRule.{StepRule}
use Rattle.am_simplify.specs.declared.step.StepRule.TheVariants.{Reflex, Rewrite}
use Rattle.am_search.specs.declared.setting.Setting.{Setting}
use Rattle.am_term.specs.declared.id.SortId.{SortId}
use Rattle.am_term.specs.declared.signature.Signature.{Signature}
use Rattle.am_clause.specs.declared.row.Rule.TheVariants as R

pub record Rules : Type 0 where
  pub axioms : ℕ  -- how many axiom rows there are
  pub starting : ℕ  -- how many rows there are at the start
  pub most : ℕ  -- the greatest weight
  pub too_big : Row → Option Reason  -- the first of Wide and Heavy that holds
  pub step_of : List Member → ℕ → Row → Option Row  -- the normal step of the row of a number, for the processed rows
  pub reason : List Member → Row → Option Reason  -- the first reason that holds, for the kept rows
  pub is_last : Row → Bool
  pub has_answer : Row → Bool
  pub close_of : ℕ → Row → Option Row  -- the close row of the row of a number
  pub turn : List Member → ℕ → Row → List Row  -- for the processed rows, and the one chosen

-- no literals, and no variables
abbrev pub ends : Clause → Bool
ends c = is_empty c.literals && is_empty (variables c)

abbrev pub closes : Signature → List SortId → ℕ → Clause → Option Row
closes sig ins n c = if is_empty c.literals && is_some c.answer then option_map (row_of (R.Close n)) (closed_off sig ins c) else None

-- the rule of the normal step of the row of a number
abbrev pub step_rule : ℕ → StepRule → Rule
step_rule n (Reflex i) = R.Reflex n i
step_rule n (Rewrite k side i path) = R.Rewrite k 1 side n i path

abbrev pub step_row : ℕ → RewriteMade → Row
step_row n step = row_of (step_rule n step.rule) step.made

unfoldable pub rules_of : Signature → List SortId → ℕ → ℕ → ℕ → Rules
rules_of sig ins most axioms starting = record {
  axioms = axioms;
  starting = starting;
  most = most;
  too_big = λ row. too_big most row.clause row.with;
  step_of = λ ps n row. option_map (step_row n) (normal_step sig ins (clause_rows ps) row.clause);
  reason = λ ks row. reason sig ins most (clause_rows ks) row.clause row.with;
  is_last = λ row. ends row.clause;
  has_answer = λ row. is_some row.clause.answer;
  close_of = λ n row. closes sig ins n row.clause;
  turn = λ ps n row. turn sig ins (sourced axioms n row) (map (source_of axioms) ps);
}

module _ (sig : Signature) (ins : List SortId) (most axioms starting : ℕ) where
  pub rules_of-axioms : (rules_of sig ins most axioms starting).axioms ≡ axioms
  unfolding rules_of
  rules_of-axioms = refl

  pub rules_of-starting : (rules_of sig ins most axioms starting).starting ≡ starting
  unfolding rules_of
  rules_of-starting = refl

  pub rules_of-most : (rules_of sig ins most axioms starting).most ≡ most
  unfolding rules_of
  rules_of-most = refl

  pub rules_of-too_big : (row : Row) → (rules_of sig ins most axioms starting).too_big row ≡ too_big most row.clause row.with
  unfolding rules_of
  rules_of-too_big row = refl

  pub rules_of-step_of : (ps : List Member) (n : ℕ) (row : Row) → (rules_of sig ins most axioms starting).step_of ps n row ≡ option_map (step_row n) (normal_step sig ins (clause_rows ps) row.clause)
  unfolding rules_of
  rules_of-step_of ps n row = refl

  pub rules_of-reason : (ks : List Member) (row : Row) → (rules_of sig ins most axioms starting).reason ks row ≡ reason sig ins most (clause_rows ks) row.clause row.with
  unfolding rules_of
  rules_of-reason ks row = refl

  pub rules_of-is_last : (row : Row) → (rules_of sig ins most axioms starting).is_last row ≡ ends row.clause
  unfolding rules_of
  rules_of-is_last row = refl

  pub rules_of-has_answer : (row : Row) → (rules_of sig ins most axioms starting).has_answer row ≡ is_some row.clause.answer
  unfolding rules_of
  rules_of-has_answer row = refl

  pub rules_of-close_of : (n : ℕ) (row : Row) → (rules_of sig ins most axioms starting).close_of n row ≡ closes sig ins n row.clause
  unfolding rules_of
  rules_of-close_of n row = refl

  pub rules_of-turn : (ps : List Member) (n : ℕ) (row : Row) → (rules_of sig ins most axioms starting).turn ps n row ≡ turn sig ins (sourced axioms n row) (map (source_of axioms) ps)
  unfolding rules_of
  rules_of-turn ps n row = refl

pub ruleset rules_laws = (rules_of-axioms, rules_of-starting, rules_of-most, rules_of-too_big, rules_of-step_of, rules_of-reason, rules_of-is_last, rules_of-has_answer, rules_of-close_of, rules_of-turn)

-- the rules in a setting
abbrev pub rules_in : Setting → Rules
rules_in s = rules_of s.ctx.sig.now s.ctx.ins.now s.weight s.axioms s.starting
