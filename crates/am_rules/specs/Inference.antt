-- What an inference is: what a rule makes of its parents by most general bindings, numbered.
use Rattle.std.specs.Prelude.{◌≡◌, ◌⊎◌, ℕ, List, [], ◌∷◌, Option, Some, None, IsTrue, IsFalse}
use Rattle.am_term.specs.declared.id.SortId.{SortId}
use Rattle.am_term.specs.declared.signature.Signature.{Signature}
use Rattle.am_term.specs.declared.term.Term.{Term}
use Rattle.am_clause.specs.declared.clause.Clause.{Clause}
use Rattle.am_clause.specs.declared.row.Made.{Made}
use Rattle.am_clause.specs.declared.row.Row.{Row}
use Rattle.am_clause.specs.declared.row.Rule.{Rule}
use Rattle.am_clause.specs.SortedClause.{is_sorted_clause}
use Rattle.am_clause.specs.declared.row.Side.{Side}
use Rattle.am_clause.specs.Bound.{bound}
use Rattle.am_clause.specs.SortedClause.{are_bindings}
use Rattle.am_clause.specs.Numbered.{IsNumbered, AreNumbered}
use Rattle.am_clause.specs.NumberedMade.{made_occurrences, numbered_made}
use Rattle.am_clause.specs.MostGeneral.{AreMostGeneral, conclusion_of}
use Rattle.am_clause.specs.Rules.{OneParent, TwoParents, rewrite}
use Rattle.am_clause.specs.Variables.{variables}
use Rattle.am_clause.specs.Steps.{IsMadeOfOne, IsMadeOfTwo}
use Rattle.am_rules.specs.Rewriting.{own_terms}

-- a conclusion with its lists as the row of a proof
abbrev pub row_of : Rule → Made → Row
row_of rule m = record { clause = m.clause; rule = rule; with = m.with }

module _ (sig : Signature) (ins : List SortId) (rule : OneParent) (p : Clause) where
  -- lists of terms with which the rule makes a clause of its parent
  pub record TakesOne (ws : List (List Term)) : Type 0 where
    pub conclusion : Clause
    pub first : List Term
    pub bound_by : ws ≡ first ∷ []
    pub made : IsMadeOfOne sig ins rule p first conclusion

  -- a conclusion with its lists, of which all other lists that the rule takes are instances
  pub record IsInferenceOfOne (m : Made) : Type 0 where
    pub first : List Term
    pub bound_by : m.with ≡ first ∷ []
    pub made : IsMadeOfOne sig ins rule p first m.clause
    pub general : AreMostGeneral sig ins TakesOne m.with
    pub numbered : AreNumbered (made_occurrences m)

  -- an inference, and none exactly where the rule takes no lists
  abbrev pub AnswersOne : Option Made → Type 0
  AnswersOne None = (ws : List (List Term)) → TakesOne ws → ⊥
  AnswersOne (Some m) = IsInferenceOfOne m

module _ (sig : Signature) (ins : List SortId) (rule : TwoParents) (p q : Clause) where
  -- lists of terms with which the rule makes a clause of its parents
  pub record TakesTwo (ws : List (List Term)) : Type 0 where
    pub conclusion : Clause
    pub first : List Term
    pub second : List Term
    pub bound_by : ws ≡ first ∷ second ∷ []
    pub made : IsMadeOfTwo sig ins rule p first q second conclusion

  -- a conclusion with its lists, of which all other lists that the rule takes are instances
  pub record IsInferenceOfTwo (m : Made) : Type 0 where
    pub first : List Term
    pub second : List Term
    pub bound_by : m.with ≡ first ∷ second ∷ []
    pub made : IsMadeOfTwo sig ins rule p first q second m.clause
    pub general : AreMostGeneral sig ins TakesTwo m.with
    pub numbered : AreNumbered (made_occurrences m)

  -- an inference, and none exactly where the rule takes no lists
  abbrev pub AnswersTwo : Option Made → Type 0
  AnswersTwo None = (ws : List (List Term)) → TakesTwo ws → ⊥
  AnswersTwo (Some m) = IsInferenceOfTwo m

  -- the inference has a conclusion that isn't well sorted
  pub record InfersUnsorted : Type 0 where
    pub inferred : Made
    pub inference : IsInferenceOfTwo inferred
    pub unsorted : IsFalse (is_sorted_clause sig ins inferred.clause)

  -- a well sorted inference, and none exactly where the rule takes no lists or its conclusion isn't well sorted
  abbrev pub AnswersSorted : Option Made → Type 0
  AnswersSorted None = ((ws : List (List Term)) → TakesTwo ws → ⊥) ⊎ InfersUnsorted
  AnswersSorted (Some m) = IsInferenceOfTwo m × IsTrue (is_sorted_clause sig ins m.clause)

-- Rewriting: the one equation of p makes the part of q's literal i at the path another. There is a match in place of a
-- most general unifier: q's variables are constants.
module _ (sig : Signature) (ins : List SortId) (p : Clause) (side : Side) (q : Clause) (i : ℕ) (path : List ℕ) where
  -- terms for p's variables by which that side is the part of q as it stands
  pub record MakesPart (xs : List Term) : Type 0 where
    pub binds : IsTrue (are_bindings sig ins xs p)
    pub equal : IsTrue ((rewrite 1 side i path).equal (bound xs p) q)

  -- what the rule makes of such terms and of q with its own variables, numbered: it follows by the rule
  pub record IsRewrite (m : Made) : Type 0 where
    pub found : List Term
    pub makes_part : MakesPart found
    pub is : m ≡ numbered_made (conclusion_of (rewrite 1 side i path) p q found (own_terms (variables q)))
    pub first : List Term
    pub second : List Term
    pub bound_by : m.with ≡ first ∷ second ∷ []
    pub made : IsMadeOfTwo sig ins (rewrite 1 side i path) p first q second m.clause
    pub numbered : AreNumbered (made_occurrences m)

  -- a rewrite has a conclusion that isn't well sorted
  pub record RewritesUnsorted : Type 0 where
    pub inferred : Made
    pub inference : IsRewrite inferred
    pub unsorted : IsFalse (is_sorted_clause sig ins inferred.clause)

  -- a well sorted rewrite; none only where the rule doesn't suit the clauses, no terms make the side the part, or the
  -- conclusion isn't well sorted
  abbrev pub AnswersRewrite : Option Made → Type 0
  AnswersRewrite None = IsFalse ((rewrite 1 side i path).suits p q) ⊎ (((xs : List Term) → MakesPart xs → ⊥) ⊎ RewritesUnsorted)
  AnswersRewrite (Some m) = IsRewrite m × IsTrue (is_sorted_clause sig ins m.clause)

-- What makes a conclusion with its lists the step of a proof, once its parents are rows: it follows by the rule, is well
-- sorted and numbered; and its clause is numbered by itself.
module _ (sig : Signature) (ins : List SortId) (m : Made) where
  pub record IsStepOfOne (rule : OneParent) (p : Clause) : Type 0 where
    pub first : List Term
    pub bound_by : m.with ≡ first ∷ []
    pub made : IsMadeOfOne sig ins rule p first m.clause
    pub sorted : IsTrue (is_sorted_clause sig ins m.clause)
    pub numbered : AreNumbered (made_occurrences m)
    pub clause_numbered : IsNumbered m.clause

  pub record IsStepOfTwo (rule : TwoParents) (p q : Clause) : Type 0 where
    pub first : List Term
    pub second : List Term
    pub bound_by : m.with ≡ first ∷ second ∷ []
    pub made : IsMadeOfTwo sig ins rule p first q second m.clause
    pub sorted : IsTrue (is_sorted_clause sig ins m.clause)
    pub numbered : AreNumbered (made_occurrences m)
    pub clause_numbered : IsNumbered m.clause
