-- Steps: rows that follow from earlier ones by a rule. There is no unification here: the row says by which terms its
-- parents were bound.
use Rattle.std.specs.Prelude.{◌≡◌, ◌++◌, ℕ, List, [], ◌∷◌, Option, Some, option_map, IsTrue}
use Rattle.am_term.specs.declared.id.SortId.{SortId}
use Rattle.am_term.specs.declared.signature.Signature.{Signature}
use Rattle.am_term.specs.declared.term.Term.{Term}
use Rattle.am_term.specs.Place.{member}
use Rattle.am_clause.specs.declared.clause.Clause.{Clause}
use Rattle.am_clause.specs.declared.row.Rule.{Rule}
use Rattle.am_clause.specs.declared.row.Rule.TheVariants.{Axiom, Goal, Given, Factor, Reflex, Resolve, Para, Rewrite, Close}
use Rattle.am_clause.specs.declared.row.Row.{Row}
use Rattle.am_clause.specs.Bound.{bound, without_repeats}
use Rattle.am_clause.specs.SortedClause.{are_bindings, is_sorted_clause}
use Rattle.am_clause.specs.Numbered.{IsNumberedRow}
use Rattle.am_clause.specs.Rules.{OneParent, TwoParents, factor, reflex, close, resolve, para, rewrite}

-- what a proof may start from: clauses of axioms by the axiom's number and their own, the goal, the givens
pub record Sources : Type 0 where
  pub axioms : ℕ → ℕ → Option Clause
  pub goal : Clause
  pub givens : ℕ → Option Clause

-- the clause of a row, by its number from 1
abbrev pub clause_at : List Row → ℕ → Option Clause
clause_at rows n = option_map (λ (r : Row). r.clause) (member rows n)

-- d follows from the clause p, bound by a list of terms
pub record IsMadeOfOne (sig : Signature) (ins : List SortId) (rule : OneParent) (p : Clause) (first : List Term) (d : Clause) : Type 0 where
  pub suits : IsTrue (rule.suits p)
  pub binds : IsTrue (are_bindings sig ins first p)
  pub equal : IsTrue (rule.equal (bound first p))
  pub is : d ≡ without_repeats (rule.made (bound first p))

-- d follows from the clauses p and q, each bound by a list of its own
pub record IsMadeOfTwo (sig : Signature) (ins : List SortId) (rule : TwoParents) (p : Clause) (first : List Term) (q : Clause) (second : List Term) (d : Clause) : Type 0 where
  pub suits : IsTrue (rule.suits p q)
  pub binds : IsTrue (are_bindings sig ins first p)
  pub binds_other : IsTrue (are_bindings sig ins second q)
  pub equal : IsTrue (rule.equal (bound first p) (bound second q))
  pub answers : IsTrue (rule.answers (bound first p) (bound second q))
  pub is : d ≡ without_repeats (rule.made (bound first p) (bound second q))

-- the parent is an earlier row, and the row has one list of terms
pub record FromOne (sig : Signature) (ins : List SortId) (rows : List Row) (rule : OneParent) (m : ℕ) (with : List (List Term)) (d : Clause) : Type 0 where
  pub p : Clause
  pub first : List Term
  pub there : clause_at rows m ≡ Some p
  pub bound_by : with ≡ first ∷ []
  pub made : IsMadeOfOne sig ins rule p first d

-- both parents are earlier rows, and the row has two lists of terms, the first for the first parent
pub record FromTwo (sig : Signature) (ins : List SortId) (rows : List Row) (rule : TwoParents) (m n : ℕ) (with : List (List Term)) (d : Clause) : Type 0 where
  pub p : Clause
  pub q : Clause
  pub first : List Term
  pub second : List Term
  pub there : clause_at rows m ≡ Some p
  pub there_too : clause_at rows n ≡ Some q
  pub bound_by : with ≡ first ∷ second ∷ []
  pub made : IsMadeOfTwo sig ins rule p first q second d

-- a clause to start from, and no list of terms
pub record IsStart (from : Option Clause) (with : List (List Term)) (d : Clause) : Type 0 where
  pub is : from ≡ Some d
  pub unbound : with ≡ []

module _ (sig : Signature) (ins : List SortId) (sources : Sources) where
  -- the clause follows by the rule from the earlier rows
  abbrev pub Follows : List Row → Rule → List (List Term) → Clause → Type 0
  Follows rows (Axiom k c) with d = IsStart (sources.axioms k c) with d
  Follows rows Goal with d = IsStart (Some sources.goal) with d
  Follows rows (Given k) with d = IsStart (sources.givens k) with d
  Follows rows (Factor m i j) with d = FromOne sig ins rows (factor i j) m with d
  Follows rows (Reflex m i) with d = FromOne sig ins rows (reflex i) m with d
  Follows rows (Resolve m i n j) with d = FromTwo sig ins rows (resolve i j) m n with d
  Follows rows (Para m j side n i path) with d = FromTwo sig ins rows (para j side i path) m n with d
  Follows rows (Rewrite m j side n i path) with d = FromTwo sig ins rows (rewrite j side i path) m n with d
  Follows rows (Close m) with d = FromOne sig ins rows close m with d

  -- the row follows from the earlier ones, is well sorted and is numbered
  pub record IsStep (rows : List Row) (row : Row) : Type 0 where
    pub follows : Follows rows row.rule row.with row.clause
    pub sorted : IsTrue (is_sorted_clause sig ins row.clause)
    pub numbered : IsNumberedRow row

  -- each row is a step after those before it
  abbrev pub AreSteps : List Row → List Row → Type 0
  AreSteps before [] = Unit {0}
  AreSteps before (row ∷ rows) = IsStep before row × AreSteps (before ++ row ∷ []) rows
