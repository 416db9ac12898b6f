-- Each row of a list of steps holds.
use Rattle.std.proofs.Common.{◌≡◌, ◌++◌, inl, inr, ℕ, zero, suc, refl, sym, subst, List, [], ◌∷◌, slice_get, Option, Some, None, option_map, IsTrue}
use Rattle.std.specs.List.{AllByRecursion, list_any}
use Rattle.am_term.specs.declared.id.SortId.{SortId}
use Rattle.am_term.specs.declared.signature.Signature.{Signature}
use Rattle.am_term.specs.declared.term.Term.{Term}
use Rattle.am_term.specs.declared.term.Literal.{Literal}
use Rattle.am_term.specs.Place.{member}
use Rattle.am_clause.specs.declared.clause.Clause.{Clause}
use Rattle.am_clause.specs.declared.row.Rule.{Rule}
use Rattle.am_clause.specs.declared.row.Rule.TheVariants.{Axiom, Goal, Given, Factor, Reflex, Resolve, Para, Rewrite, Close}
use Rattle.am_clause.specs.declared.row.Row.{Row}
use Rattle.am_clause.specs.Numbered.{IsNumbered}
use Rattle.am_clause.proofs.NumberedRows.{numbered-clause}
use Rattle.am_world.specs.Interpretation.{Interpretation, IsWorld, Members}
use Rattle.am_world.specs.Value.{Assignment, literal_truth}
use Rattle.am_clause.specs.Bound.{bound}
use Rattle.am_clause.specs.Rules.{OneParent, TwoParents, factor, reflex, close, resolve, para, rewrite}
use Rattle.am_clause.specs.Steps.{Sources, clause_at, IsMadeOfOne, IsMadeOfTwo, FromOne, FromTwo, Follows, IsStep, AreSteps}
use Rattle.am_world.specs.Holding.{Serves, HoldsAt, HoldsFor, SourcesHold}
use Rattle.am_world.proofs.Bound.{holds-bound}
use Rattle.am_world.proofs.Merging.{merged-holds}
use Rattle.am_calculus.proofs.Sound.{KeepsOne, KeepsTwo, factor-keeps, reflex-keeps, close-keeps, resolve-keeps, para-keeps, rewrite-keeps}

-- ---- lists of rows

all-get : {A : Type 0} (P : A → Type 0) (xs : List A) (i : ℕ) (x : A) → AllByRecursion P xs → slice_get xs i ≡ Some x → P x
all-get P [] i x h e = absurd cc
all-get P (y ∷ ys) zero x h e = let one : y ≡ x = cc in subst P one h.0
all-get P (y ∷ ys) (suc i) x h e = all-get P ys i x h.1 e

all-member : {A : Type 0} (P : A → Type 0) (xs : List A) (n : ℕ) (x : A) → AllByRecursion P xs → member xs n ≡ Some x → P x
all-member P xs zero x h e = absurd cc
all-member P xs (suc i) x h e = all-get P xs i x h e

all-push : {A : Type 0} (P : A → Type 0) (xs : List A) (x : A) → AllByRecursion P xs → P x → AllByRecursion P (xs ++ x ∷ [])
all-push P [] x h k = (k, tt)
all-push P (y ∷ ys) x h k = (h.0, all-push P ys x h.1 k)

module _ (sig : Signature) (w : Interpretation) (world : IsWorld sig w) (sorts : List SortId) (ins : List ℕ) (inside : Members w sorts ins) (Q : List ℕ → Type 0) where
  -- what is shown of each row
  abbrev pub IsGood : Clause → Type 0
  IsGood c = IsNumbered c × HoldsFor sig w ins Q c

  pub one-holds : (rule : OneParent) → ((a : Assignment) → KeepsOne w ins a Q rule) → (p d : Clause) (first : List Term) → IsGood p → IsMadeOfOne sig sorts rule p first d → HoldsFor sig w ins Q d
  one-holds rule keeps p d first g m a assigned = subst (HoldsAt w ins Q a) (sym m.is)
      (merged-holds w ins a Q (rule.made (bound first p)) (keeps a p first m.suits m.equal (holds-bound w ins a first sig world sorts inside assigned p g.0 m.binds Q g.1)))

  pub two-hold : (rule : TwoParents) → ((a : Assignment) → KeepsTwo w ins a Q rule) → (p q d : Clause) (first second : List Term) → IsGood p → IsGood q → IsMadeOfTwo sig sorts rule p first q second d → HoldsFor sig w ins Q d
  two-hold rule keeps p q d first second g h m a assigned = subst (HoldsAt w ins Q a) (sym m.is)
      (merged-holds w ins a Q (rule.made (bound first p) (bound second q)) (keeps a p q first second m.suits m.equal m.answers
      (holds-bound w ins a first sig world sorts inside assigned p g.0 m.binds Q g.1)
      (holds-bound w ins a second sig world sorts inside assigned q h.0 m.binds_other Q h.1)))

  abbrev AreGood : List Row → Type 0
  AreGood rows = AllByRecursion (λ (r : Row). IsGood r.clause) rows

  good-at : (rows : List Row) → AreGood rows → (n : ℕ) (c : Clause) → clause_at rows n ≡ Some c → IsGood c
  good-at rows h n c e = by (member rows n) refl e
    where
      by : (o : Option Row) → member rows n ≡ o → option_map (λ (r : Row). r.clause) o ≡ Some c → IsGood c
      by None is e = absurd cc
      by (Some r) is e = let one : r.clause ≡ c = cc in subst IsGood one (all-member (λ (r : Row). IsGood r.clause) rows n r h is)

  from-one : (rows : List Row) → AreGood rows → (rule : OneParent) → ((a : Assignment) → KeepsOne w ins a Q rule) → (m : ℕ) (with : List (List Term)) (d : Clause) → FromOne sig sorts rows rule m with d → HoldsFor sig w ins Q d
  from-one rows h rule keeps m with d f = one-holds rule keeps f.p d f.first (good-at rows h m f.p f.there) f.made

  from-two : (rows : List Row) → AreGood rows → (rule : TwoParents) → ((a : Assignment) → KeepsTwo w ins a Q rule) → (m n : ℕ) (with : List (List Term)) (d : Clause) → FromTwo sig sorts rows rule m n with d → HoldsFor sig w ins Q d
  from-two rows h rule keeps m n with d f = two-hold rule keeps f.p f.q d f.first f.second (good-at rows h m f.p f.there) (good-at rows h n f.q f.there_too) f.made

  module _ (sources : Sources) (true_sources : SourcesHold sig w ins Q sources) where
    goal_is : (d : Clause) → Some sources.goal ≡ Some d → sources.goal ≡ d
    goal_is d e = cc

    -- what follows from rows that hold
    pub follows-holds : (rows : List Row) → AreGood rows → (rule : Rule) (with : List (List Term)) (d : Clause) → Follows sig sorts sources rows rule with d → HoldsFor sig w ins Q d
    follows-holds rows h (Axiom k c) with d f = true_sources.axioms k c d f.is
    follows-holds rows h Goal with d f = subst (HoldsFor sig w ins Q) (goal_is d f.is) true_sources.goal
    follows-holds rows h (Given k) with d f = true_sources.givens k d f.is
    follows-holds rows h (Factor m i j) with d f = from-one rows h (factor i j) (λ a. factor-keeps w ins a Q i j) m with d f
    follows-holds rows h (Reflex m i) with d f = from-one rows h (reflex i) (λ a. reflex-keeps w ins a Q i) m with d f
    follows-holds rows h (Resolve m i n j) with d f = from-two rows h (resolve i j) (λ a. resolve-keeps w ins a Q i j) m n with d f
    follows-holds rows h (Para m j side n i path) with d f = from-two rows h (para j side i path) (λ a. para-keeps w ins a Q j side i path) m n with d f
    follows-holds rows h (Rewrite m j side n i path) with d f = from-two rows h (rewrite j side i path) (λ a. rewrite-keeps w ins a Q j side i path) m n with d f
    follows-holds rows h (Close m) with d f = from-one rows h close (λ a. close-keeps w ins a Q) m with d f

    pub step-good : (rows : List Row) → AreGood rows → (row : Row) → IsStep sig sorts sources rows row → IsGood row.clause
    step-good rows h row s = (numbered-clause row s.numbered, follows-holds rows h row.rule row.with row.clause s.follows)

    steps-from : (before rows : List Row) → AreGood before → AreSteps sig sorts sources before rows → AreGood rows
    steps-from before [] h s = tt
    steps-from before (row ∷ rows) h s =
        let good : IsGood row.clause = step-good before h row s.0 in
        (good, steps-from (before ++ row ∷ []) rows (all-push (λ (r : Row). IsGood r.clause) before row h good) s.1)

    -- each row of a list of steps is numbered and holds
    pub steps-good : (rows : List Row) → AreSteps sig sorts sources [] rows → AreGood rows
    steps-good rows s = steps-from [] rows tt s

    pub steps-hold : (rows : List Row) → AreSteps sig sorts sources [] rows → (n : ℕ) (c : Clause) → clause_at rows n ≡ Some c → HoldsFor sig w ins Q c
    steps-hold rows s n c e = (good-at rows (steps-good rows s) n c e).1

-- ---- the last row

-- where no literal is left, the answer serves
pub final-serves : (w : Interpretation) (ins : List ℕ) (Q : List ℕ → Type 0) (a : Assignment) (c : Clause) → c.literals ≡ [] → HoldsAt w ins Q a c → Serves w ins Q a c.answer
final-serves w ins Q a c e (inl t) = absurd (none c.literals e t)
  where
    none : (ls : List Literal) → ls ≡ [] → IsTrue (list_any (literal_truth w ins a) ls) → ⊥
    none ls e t = let u = subst (λ xs. IsTrue (list_any (literal_truth w ins a) xs)) e t in cc
final-serves w ins Q a c e (inr s) = s
