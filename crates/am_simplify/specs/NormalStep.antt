-- The normal step of a clause: the first negative equation with equal sides goes, or the first rewriting is made.
use Rattle.std.specs.Prelude.{◌&&◌, ℕ, Bool, not, List, Option, Some, None, find, option_map}
use Rattle.am_term.specs.declared.id.SortId.{SortId}
use Rattle.am_term.specs.declared.signature.Signature.{Signature}
use Rattle.am_term.specs.declared.term.Literal.{Literal}
use Rattle.am_clause.specs.Tautology.{equal_sides}
use Rattle.am_clause.specs.declared.clause.Clause.{Clause}
use Rattle.am_clause.specs.declared.row.Made.{Made}
use Rattle.am_rules.specs.Conclusions.{reflexed, rewritten}
use Rattle.am_simplify.specs.Numbering.{Numbered, with_numbers, the_number, find_map}
use Rattle.am_simplify.specs.Places.{places_of_atom}
use Rattle.am_simplify.specs.Reasons.{NumberedClause}
use Rattle.am_simplify.specs.Units.{units}
use Rattle.am_simplify.specs.declared.step.RewriteMade.{RewriteMade}
use Rattle.am_simplify.specs.declared.step.StepRule.{StepRule}
use Rattle.am_simplify.specs.declared.step.StepRule.TheVariants.{Reflex, Rewrite}
use Rattle.am_simplify.specs.declared.step.Unit.{Unit}

-- a conclusion with the rule of its step
abbrev pub made_by_rule : StepRule → Made → RewriteMade
made_by_rule rule made = record { rule = rule; made = made }

-- a negative equation with equal sides
abbrev pub goes : Numbered → Bool
goes l = not l.1.positive && equal_sides l.1.atom

-- the number of the first literal that goes
abbrev pub first_to_go : List Literal → Option ℕ
first_to_go ls = option_map the_number (find goes (with_numbers 1 ls))

module _ (sig : Signature) (ins : List SortId) where
  -- by one unit, at one place of literal i
  abbrev pub rewrite_with : Clause → ℕ → List ℕ → Unit → Option RewriteMade
  rewrite_with c i path u = option_map (made_by_rule (Rewrite u.row u.side i path)) (rewritten sig ins u.clause u.side c i path)

  -- at one place by the first unit that rewrites it
  abbrev pub rewrite_at : List Unit → Clause → ℕ → List ℕ → Option RewriteMade
  rewrite_at us c i path = find_map (rewrite_with c i path) us

  -- in one literal at the first place that is rewritten
  abbrev pub rewrite_in : List Unit → Clause → Numbered → Option RewriteMade
  rewrite_in us c l = find_map (rewrite_at us c l.0) (places_of_atom l.1.atom)

  -- in the first literal that is rewritten
  abbrev pub rewrite_first : List Unit → Clause → Option RewriteMade
  rewrite_first us c = find_map (rewrite_in us c) (with_numbers 1 c.literals)

  abbrev pub step_without : List Unit → Clause → Option ℕ → Option RewriteMade
  step_without us c (Some i) = option_map (made_by_rule (Reflex i)) (reflexed sig ins c i)
  step_without us c None = rewrite_first us c

  -- the first literal that goes, wherever it stands, goes; if there is none, the first rewriting by these units is made
  abbrev pub step_by : List Unit → Clause → Option RewriteMade
  step_by us c = step_without us c (first_to_go c.literals)

  -- the step by the units among some rows
  abbrev pub normal_step : List NumberedClause → Clause → Option RewriteMade
  normal_step rows c = step_by (units sig rows) c
