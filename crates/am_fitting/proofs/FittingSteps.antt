-- In a list of steps each row's answer fits, if the answers fit that the steps start from.
use Rattle.std.proofs.Common.{◌≡◌, ◌++◌, ℕ, zero, suc, refl, sym, subst, List, [], ◌∷◌, slice_get, Option, Some, None, option_map}
use Rattle.std.specs.List.{AllByRecursion}
use Rattle.am_term.specs.declared.id.SortId.{SortId}
use Rattle.am_term.specs.declared.signature.Signature.{Signature}
use Rattle.am_term.specs.declared.term.Term.{Term}
use Rattle.am_term.specs.Place.{member}
use Rattle.am_clause.specs.declared.clause.Clause.{Clause}
use Rattle.am_clause.specs.declared.row.Row.{Row}
use Rattle.am_clause.specs.declared.row.Rule.{Rule}
use Rattle.am_clause.specs.declared.row.Rule.TheVariants.{Axiom, Goal, Given, Factor, Reflex, Resolve, Para, Rewrite, Close}
use Rattle.am_clause.specs.Bound.{bound}
use Rattle.am_clause.specs.Numbered.{IsNumbered}
use Rattle.am_clause.specs.Rules.{OneParent, TwoParents, factor, reflex, close, resolve, para, rewrite, shared}
use Rattle.am_clause.specs.Steps.{Sources, clause_at, FromOne, FromTwo, Follows, AreSteps}
use Rattle.am_clause.proofs.NumberedRows.{numbered-clause}
use Rattle.am_fitting.proofs.Bindings.{AnswerFits, bound-fits}

-- ---- lists of rows

all-get : {A : Type 0} (P : A → Type 0) (xs : List A) (i : ℕ) (x : A) → AllByRecursion P xs → slice_get xs i ≡ Some x → P x
all-get P [] i x h e = absurd cc
all-get P (y ∷ ys) zero x h e = let one : y ≡ x = cc in subst P one h.0
all-get P (y ∷ ys) (suc i) x h e = all-get P ys i x h.1 e

-- what holds of each holds of a member
pub all-member : {A : Type 0} (P : A → Type 0) (xs : List A) (n : ℕ) (x : A) → AllByRecursion P xs → member xs n ≡ Some x → P x
all-member P xs zero x h e = absurd cc
all-member P xs (suc i) x h e = all-get P xs i x h e

all-push : {A : Type 0} (P : A → Type 0) (xs : List A) (x : A) → AllByRecursion P xs → P x → AllByRecursion P (xs ++ x ∷ [])
all-push P [] x h k = (k, tt)
all-push P (y ∷ ys) x h k = (h.0, all-push P ys x h.1 k)

-- ---- the answer of a conclusion is that of the parent, or the one that the parents share

abbrev KeepsAnswer : OneParent → Type 0
KeepsAnswer rule = (c : Clause) → (rule.made c).answer ≡ c.answer

abbrev SharesAnswers : TwoParents → Type 0
SharesAnswers rule = (c d : Clause) → (rule.made c d).answer ≡ shared c.answer d.answer

module _ (sig : Signature) (ins places : List SortId) where
  -- the answer of the clause fits, where there is one
  abbrev pub Fits : Clause → Type 0
  Fits c = AnswerFits sig ins places c.answer

  -- what is shown of each row
  abbrev IsGood : Clause → Type 0
  IsGood c = IsNumbered c × Fits c

  abbrev AreGood : List Row → Type 0
  AreGood rows = AllByRecursion (λ (r : Row). IsGood r.clause) rows

  good-at : (rows : List Row) → AreGood rows → (n : ℕ) (c : Clause) → clause_at rows n ≡ Some c → IsGood c
  good-at rows h n c e = by (member rows n) refl e
    where
      by : (o : Option Row) → member rows n ≡ o → option_map (λ (r : Row). r.clause) o ≡ Some c → IsGood c
      by None is e = absurd cc
      by (Some r) is e = let one : r.clause ≡ c = cc in subst IsGood one (all-member (λ (r : Row). IsGood r.clause) rows n r h is)

  shared-fits : (o u : Option (List Term)) → AnswerFits sig ins places o → AnswerFits sig ins places u → AnswerFits sig ins places (shared o u)
  shared-fits None u e f = f
  shared-fits (Some ts) u e f = e

  from-one : (rows : List Row) → AreGood rows → (rule : OneParent) → KeepsAnswer rule → (m : ℕ) (with : List (List Term)) (d : Clause) → FromOne sig ins rows rule m with d → Fits d
  from-one rows h rule keeps m with d f =
      let g : IsGood f.p = good-at rows h m f.p f.there in
      subst Fits (sym f.made.is) (subst (AnswerFits sig ins places) (sym (keeps (bound f.first f.p))) (bound-fits sig ins places f.first f.p g.0 f.made.binds g.1))

  from-two : (rows : List Row) → AreGood rows → (rule : TwoParents) → SharesAnswers rule → (m n : ℕ) (with : List (List Term)) (d : Clause) → FromTwo sig ins rows rule m n with d → Fits d
  from-two rows h rule shares m n with d f =
      let g : IsGood f.p = good-at rows h m f.p f.there in
      let k : IsGood f.q = good-at rows h n f.q f.there_too in
      let p : Clause = bound f.first f.p in
      let q : Clause = bound f.second f.q in
      subst Fits (sym f.made.is) (subst (AnswerFits sig ins places) (sym (shares p q)) (shared-fits p.answer q.answer
      (bound-fits sig ins places f.first f.p g.0 f.made.binds g.1)
      (bound-fits sig ins places f.second f.q k.0 f.made.binds_other k.1)))

  -- the answers of all that a proof may start from fit
  pub record StartsFit (sources : Sources) : Type 0 where
    pub axioms : (k c : ℕ) (d : Clause) → sources.axioms k c ≡ Some d → Fits d
    pub goal : Fits sources.goal
    pub givens : (k : ℕ) (d : Clause) → sources.givens k ≡ Some d → Fits d

  module _ (sources : Sources) (starts : StartsFit sources) where
    goal-is : (d : Clause) → Some sources.goal ≡ Some d → sources.goal ≡ d
    goal-is d e = cc

    follows-fits : (rows : List Row) → AreGood rows → (rule : Rule) (with : List (List Term)) (d : Clause) → Follows sig ins sources rows rule with d → Fits d
    follows-fits rows h (Axiom k c) with d f = starts.axioms k c d f.is
    follows-fits rows h Goal with d f = subst Fits (goal-is d f.is) starts.goal
    follows-fits rows h (Given k) with d f = starts.givens k d f.is
    follows-fits rows h (Factor m i j) with d f = from-one rows h (factor i j) (λ c. refl) m with d f
    follows-fits rows h (Reflex m i) with d f = from-one rows h (reflex i) (λ c. refl) m with d f
    follows-fits rows h (Resolve m i n j) with d f = from-two rows h (resolve i j) (λ c e. refl) m n with d f
    follows-fits rows h (Para m j side n i path) with d f = from-two rows h (para j side i path) (λ c e. refl) m n with d f
    follows-fits rows h (Rewrite m j side n i path) with d f = from-two rows h (rewrite j side i path) (λ c e. refl) m n with d f
    follows-fits rows h (Close m) with d f = from-one rows h close (λ c. refl) m with d f

    steps-from : (before rows : List Row) → AreGood before → AreSteps sig ins sources before rows → AreGood rows
    steps-from before [] h s = tt
    steps-from before (row ∷ rows) h s =
        let good : IsGood row.clause = (numbered-clause row s.0.numbered, follows-fits before h row.rule row.with row.clause s.0.follows) in
        (good, steps-from (before ++ row ∷ []) rows (all-push (λ (r : Row). IsGood r.clause) before row h good) s.1)

    pub steps-fit : (rows : List Row) → AreSteps sig ins sources [] rows → (n : ℕ) (c : Clause) → clause_at rows n ≡ Some c → Fits c
    steps-fit rows s n c e = (good-at rows (steps-from [] rows tt s) n c e).1
