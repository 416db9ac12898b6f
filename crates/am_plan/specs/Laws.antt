-- What the plan of an answer tells of the answer, and of its calls.
use Rattle.std.specs.Prelude.{◌≡◌, ◌⊎◌, ◌&&◌, Bool, true, not, Ok, List, [], ◌∷◌, length, IsTrue}
use Rattle.std.specs.List.{AllByRecursion, Contains}
use Rattle.am_term.specs.declared.term.Term.{Term}
use Rattle.am_clause.specs.Distinct.{among}
use Rattle.am_theory.specs.declared.theory.Theory.{Theory}
use Rattle.am_theory.specs.Facts.{WellFormed as WellFormedTheory}
use Rattle.am_diagram.specs.declared.diagram.Diagram.{Diagram}
use Rattle.am_diagram.specs.Facts.{WellFormed}
use Rattle.am_fortran.specs.declared.unit.Unit.{Unit as Subroutine}
use Rattle.am_exec.specs.Terms.{terms}
use Rattle.am_plan.specs.Calls.{PlannedCall, same_call, asks_for, calls, made_by}
use Rattle.am_plan.specs.Names.{named_terms}
use Rattle.am_plan.specs.Plan.{IsPlan, statement_of}
use Rattle.am_plan.specs.Answers.{IsAnswerFor}

-- run by terms, the subroutine of an answer has no fault, and its outputs hold the answer
abbrev pub PlanGivesAnswer : Type 0
PlanGivesAnswer = (t : Theory) (d : Diagram) (answer : List Term) (u : Subroutine) → WellFormedTheory t → WellFormed t d → IsAnswerFor t d answer → IsPlan t d answer u → terms t d u ≡ Ok answer

-- no two of these are the same call
abbrev pub are_different : List PlannedCall → Bool
are_different [] = true
are_different (c ∷ cs) = not (among same_call c cs) && are_different cs

pub record AreCallsOnce (t : Theory) (d : Diagram) (answer : List Term) : Type 0 where
  -- no call stands twice
  pub different : IsTrue (are_different (calls t answer))
  -- what is asked for is called, and nothing else is
  pub called : AllByRecursion (λ (c : PlannedCall). IsTrue (among same_call c (calls t answer))) (asks_for t answer)
  pub asked_for : AllByRecursion (λ (c : PlannedCall). IsTrue (among same_call c (asks_for t answer))) (calls t answer)
  -- each call is one statement
  pub single : AllByRecursion (λ (c : PlannedCall). length (statement_of t d (named_terms t d answer) c) ≡ 1) (calls t answer)

-- each different call that the terms of an answer ask for is made once, by one statement
abbrev pub EachCallOnce : Type 0
EachCallOnce = (t : Theory) (d : Diagram) (answer : List Term) → WellFormedTheory t → WellFormed t d → IsAnswerFor t d answer → AreCallsOnce t d answer

-- one of the terms that a call makes is one of the answer's, or an argument of a later call
pub record IsNeeded (t : Theory) (answer : List Term) (later : List PlannedCall) (c : PlannedCall) : Type 0 where
  pub output : Term
  pub made : Contains (made_by t c) output
  pub used : Contains answer output ⊎ ((b : PlannedCall) × Contains later b × Contains b.args output)

-- each of these calls, in this order
abbrev pub AreNeeded : Theory → List Term → List PlannedCall → Type 0
AreNeeded t answer [] = Unit {0}
AreNeeded t answer (c ∷ cs) = IsNeeded t answer cs c × AreNeeded t answer cs

-- no call is made in vain
abbrev pub NothingNeedless : Type 0
NothingNeedless = (t : Theory) (d : Diagram) (answer : List Term) → WellFormedTheory t → WellFormed t d → IsAnswerFor t d answer → AreNeeded t answer (calls t answer)
