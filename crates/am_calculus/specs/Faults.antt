-- The first fault of a row as a step: the first of the kinds, in their order, that holds.
use Rattle.std.specs.Prelude.{◌&&◌, Bool, List, [], ◌∷◌, Option, Some, None, is_some, if◌then◌else◌}
use Rattle.am_term.specs.declared.id.SortId.{SortId}
use Rattle.am_term.specs.declared.signature.Signature.{Signature}
use Rattle.am_term.specs.declared.term.Term.{Term}
use Rattle.am_clause.specs.declared.clause.Clause.{Clause}
use Rattle.am_clause.specs.declared.row.Rule.{Rule}
use Rattle.am_clause.specs.declared.row.Rule.TheVariants.{Axiom, Goal, Given, Factor, Reflex, Resolve, Para, Rewrite, Close}
use Rattle.am_clause.specs.declared.row.Row.{Row}
use Rattle.am_clause.specs.Walks.{walk}
use Rattle.am_calculus.specs.declared.fault.StepFault.{StepFault}
use Rattle.am_calculus.specs.declared.fault.StepFault.TheVariants.{NoSuchParent, BadPlace, BadBindings, NotEqual, AnswersDiffer, WrongConclusion}
use Rattle.am_clause.specs.Bound.{bound, without_repeats}
use Rattle.am_clause.specs.SameClause.{same_clause}
use Rattle.am_clause.specs.Numbered.{in_made}
use Rattle.am_clause.specs.SortedClause.{are_bindings}
use Rattle.am_clause.specs.Rules.{OneParent, TwoParents, factor, reflex, close, resolve, para, rewrite}
use Rattle.am_clause.specs.Steps.{Sources, clause_at}

-- the variables of the row, those of its clause and then of its lists, are numbered by first occurrence: the walk ends
abbrev pub is_numbered_row : Row → Bool
is_numbered_row row = is_some (walk [] (in_made row.with row.clause))

-- the one list, where there is one
abbrev pub sole : List (List Term) → Option (List Term)
sole [] = None
sole (first ∷ []) = Some first
sole (first ∷ second ∷ rest) = None

-- the two lists, where there are two
abbrev pub pair : List (List Term) → Option (List Term × List Term)
pair [] = None
pair (first ∷ []) = None
pair (first ∷ second ∷ []) = Some (first, second)
pair (first ∷ second ∷ third ∷ rest) = None

-- the row has this clause, and is numbered
abbrev pub conclusion_fault : Clause → Row → Option StepFault
conclusion_fault d row = if same_clause d row.clause && is_numbered_row row then None else Some WrongConclusion

-- what a proof starts from has no list
abbrev pub start_bound : List (List Term) → Clause → Row → Option StepFault
start_bound [] d row = conclusion_fault d row
start_bound (first ∷ rest) d row = Some BadBindings

-- the clause to start from is there
abbrev pub fault_of_start : Option Clause → Row → Option StepFault
fault_of_start None row = Some BadPlace
fault_of_start (Some d) row = start_bound row.with d row

module _ (sig : Signature) (ins : List SortId) where
  -- the list binds the parent, and what the rule names is equal in the instance
  abbrev pub bound_fault : OneParent → Clause → Option (List Term) → Row → Option StepFault
  bound_fault rule p None row = Some BadBindings
  bound_fault rule p (Some first) row =
      if are_bindings sig ins first p then (if rule.equal (bound first p) then conclusion_fault (without_repeats (rule.made (bound first p))) row else Some NotEqual) else Some BadBindings

  -- the parent is there, and has what the rule names
  abbrev pub fault_of_one : OneParent → Option Clause → Row → Option StepFault
  fault_of_one rule None row = Some NoSuchParent
  fault_of_one rule (Some p) row = if rule.suits p then bound_fault rule p (sole row.with) row else Some BadPlace

  -- the lists bind the parents, what the rule names is equal, and the answers go together
  abbrev pub bound_fault_of_two : TwoParents → Clause → Clause → Option (List Term × List Term) → Row → Option StepFault
  bound_fault_of_two rule p q None row = Some BadBindings
  bound_fault_of_two rule p q (Some both) row =
      if are_bindings sig ins both.0 p && are_bindings sig ins both.1 q
      then (if rule.equal (bound both.0 p) (bound both.1 q)
      then (if rule.answers (bound both.0 p) (bound both.1 q) then conclusion_fault (without_repeats (rule.made (bound both.0 p) (bound both.1 q))) row else Some AnswersDiffer)
      else Some NotEqual)
      else Some BadBindings

  -- both parents are there, and have what the rule names
  abbrev pub fault_of_two : TwoParents → Option Clause → Option Clause → Row → Option StepFault
  fault_of_two rule None q row = Some NoSuchParent
  fault_of_two rule (Some p) None row = Some NoSuchParent
  fault_of_two rule (Some p) (Some q) row = if rule.suits p q then bound_fault_of_two rule p q (pair row.with) row else Some BadPlace

  -- by the rule
  abbrev pub fault_by : Sources → List Row → Rule → Row → Option StepFault
  fault_by sources rows (Axiom k c) row = fault_of_start (sources.axioms k c) row
  fault_by sources rows Goal row = fault_of_start (Some sources.goal) row
  fault_by sources rows (Given k) row = fault_of_start (sources.givens k) row
  fault_by sources rows (Factor m i j) row = fault_of_one (factor i j) (clause_at rows m) row
  fault_by sources rows (Reflex m i) row = fault_of_one (reflex i) (clause_at rows m) row
  fault_by sources rows (Resolve m i n j) row = fault_of_two (resolve i j) (clause_at rows m) (clause_at rows n) row
  fault_by sources rows (Para m j side n i path) row = fault_of_two (para j side i path) (clause_at rows m) (clause_at rows n) row
  fault_by sources rows (Rewrite m j side n i path) row = fault_of_two (rewrite j side i path) (clause_at rows m) (clause_at rows n) row
  fault_by sources rows (Close m) row = fault_of_one close (clause_at rows m) row

  -- the first fault of a row after the earlier ones
  abbrev pub first_fault : Sources → List Row → Row → Option StepFault
  first_fault sources rows row = fault_by sources rows row.rule row
