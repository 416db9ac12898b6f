-- What a rule's call answers for rows of a proof is a step after them.
use Rattle.std.proofs.Common.{◌≡◌, ◌∙◌, ◌++◌, ◌+◌, ◌==◌, ℕ, zero, suc, Bool, true, false, arith, refl, sym, ap, subst}
use Rattle.std.proofs.Common.{List, [], ◌∷◌, slice_get, Option, Some, None, option_map}
use Rattle.std.proofs.lemmas.Bool.Decides.{nat_tests}
use Rattle.am_term.specs.declared.id.SortId.{SortId}
use Rattle.am_term.specs.declared.signature.Signature.{Signature}
use Rattle.am_term.specs.Place.{member}
use Rattle.am_clause.specs.declared.clause.Clause.{Clause}
use Rattle.am_clause.specs.declared.row.Made.{Made}
use Rattle.am_clause.specs.declared.row.Row.{Row}
use Rattle.am_clause.specs.declared.row.Rule.{Rule}
use Rattle.am_clause.specs.declared.row.Rule.TheVariants as R
use Rattle.am_clause.specs.declared.row.Side.{Side}
use Rattle.am_clause.specs.Rules.{OneParent, TwoParents, factor, reflex, close, resolve, para, rewrite}
use Rattle.am_clause.specs.Steps.{Sources, FromOne, FromTwo, IsStep, AreSteps}
use Rattle.am_clause.proofs.NumberedRows.{numbered-clause}
use Rattle.am_rules.specs.Conclusions.{factored, resolved, paramodulated, reflexed, rewritten, closed_off}
use Rattle.am_rules.specs.Inference.{row_of, IsStepOfOne, IsStepOfTwo}
use Rattle.am_rules.proofs.Concluded.{factor-step, reflex-step, resolve-step, para-step, rewrite-step, close-step}
use Rattle.am_search.specs.Members.{row_at}
use Rattle.am_search.proofs.Partners.{row_at-after}
use Rattle.am_search.specs.Replay.{on, on_both, only_if, replay}
use Rattle.am_simplify.specs.Steps.{IsProper}

-- a row by its number
pub found : (rows : List Row) (n : ℕ) (r : Row) → row_at rows n ≡ Some r → member rows n ≡ Some r
found rows zero r e = absurd cc
found rows (suc i) r e =
    let next : i + 1 ≡ suc i = omega arith in
    sym (row_at-after rows i) ∙ (ap (row_at rows) next ∙ e)

-- the number of a rule is one where the test says so
is-one : (j : ℕ) → (j == 1) ≡ true → 1 ≡ j
is-one j e = grind (arith, nat_tests)

module _ (sig : Signature) (ins : List SortId) (from : Sources) where
  proper-in : (before rows : List Row) → AreSteps sig ins from before rows → (i : ℕ) (r : Row)
      → slice_get rows i ≡ Some r → IsProper sig ins r.clause
  proper-in before [] s i r e = absurd cc
  proper-in before (x ∷ rows) s zero r e =
      let same : x ≡ r = cc in
      subst (λ (y : Row). IsProper sig ins y.clause) same
      (record { numbered = numbered-clause x s.0.numbered; sorted = s.0.sorted })
  proper-in before (x ∷ rows) s (suc i) r e = proper-in (before ++ x ∷ []) rows s.1 i r e

  proper-at : (rows : List Row) → AreSteps sig ins from [] rows → (n : ℕ) (r : Row) → member rows n ≡ Some r
      → IsProper sig ins r.clause
  proper-at rows s zero r e = absurd cc
  proper-at rows s (suc i) r e = proper-in [] rows s i r e

  pub proper-row : (rows : List Row) → AreSteps sig ins from [] rows → (n : ℕ) (r : Row) → row_at rows n ≡ Some r
      → IsProper sig ins r.clause
  proper-row rows s n r e = proper-at rows s n r (found rows n r e)

  module _ (rows : List Row) (steps : AreSteps sig ins from [] rows) (m : Made) where
    -- what was made, with its rule, is a step
    abbrev pub Steps : Rule → Type 0
    Steps rule = IsStep sig ins from rows (row_of rule m)

    from-one : (rule : OneParent) (n : ℕ) (r : Row) → row_at rows n ≡ Some r → IsStepOfOne sig ins m rule r.clause
        → FromOne sig ins rows rule n m.with m.clause
    from-one rule n r at_ s = record {
      p = r.clause;
      first = s.first;
      there = ap (option_map (λ (x : Row). x.clause)) (found rows n r at_);
      bound_by = s.bound_by;
      made = s.made;
    }

    from-two : (rule : TwoParents) (n k : ℕ) (r q : Row) → row_at rows n ≡ Some r → row_at rows k ≡ Some q
        → IsStepOfTwo sig ins m rule r.clause q.clause → FromTwo sig ins rows rule n k m.with m.clause
    from-two rule n k r q at_ too s = record {
      p = r.clause;
      q = q.clause;
      first = s.first;
      second = s.second;
      there = ap (option_map (λ (x : Row). x.clause)) (found rows n r at_);
      there_too = ap (option_map (λ (x : Row). x.clause)) (found rows k q too);
      bound_by = s.bound_by;
      made = s.made;
    }

    -- the call of a rule with one parent
    by-one : (whole : Rule) (rule : OneParent) (f : Clause → Option Made) (n : ℕ) (o : Option Row)
        → (FromOne sig ins rows rule n m.with m.clause → (r : Row) → IsStepOfOne sig ins m rule r.clause → Steps whole)
        → ((r : Row) → IsProper sig ins r.clause → f r.clause ≡ Some m → IsStepOfOne sig ins m rule r.clause)
        → row_at rows n ≡ o → on o f ≡ Some m → Steps whole
    by-one whole rule f n None k h at_ e = absurd cc
    by-one whole rule f n (Some r) k h at_ e =
        let s : IsStepOfOne sig ins m rule r.clause = h r (proper-row rows steps n r at_) e in
        k (from-one rule n r at_ s) r s

    -- the call of a rule with two parents
    by-both : (whole : Rule) (rule : TwoParents) (f : Clause → Clause → Option Made) (n k : ℕ) (o u : Option Row)
        → (FromTwo sig ins rows rule n k m.with m.clause
        → (r q : Row) → IsStepOfTwo sig ins m rule r.clause q.clause → Steps whole)
        → ((r q : Row) → IsProper sig ins r.clause → IsProper sig ins q.clause → f r.clause q.clause ≡ Some m
        → IsStepOfTwo sig ins m rule r.clause q.clause)
        → row_at rows n ≡ o → row_at rows k ≡ u → on_both o u f ≡ Some m → Steps whole
    by-both whole rule f n k None u g h at_ too e = absurd cc
    by-both whole rule f n k (Some r) None g h at_ too e = absurd cc
    by-both whole rule f n k (Some r) (Some q) g h at_ too e =
        let s : IsStepOfTwo sig ins m rule r.clause q.clause =
        h r q (proper-row rows steps n r at_) (proper-row rows steps k q too) e in
        g (from-two rule n k r q at_ too s) r q s

    -- the number of a rewriting rule's literal is 1
    only-one : (b : Bool) (o : Option Made) (P : Type 0) → (b ≡ true → o ≡ Some m → P) → only_if b o ≡ Some m → P
    only-one true o P k e = k refl e
    only-one false o P k e = absurd cc

    by-rewrite : (n j : ℕ) (side : Side) (k i : ℕ) (path : List ℕ) → 1 ≡ j
        → on_both (row_at rows n) (row_at rows k) (λ g d. rewritten sig ins g side d i path) ≡ Some m
        → Steps (R.Rewrite n j side k i path)
    by-rewrite n j side k i path one e =
        by-both (R.Rewrite n j side k i path) (rewrite 1 side i path) (λ g d. rewritten sig ins g side d i path) n k
        (row_at rows n) (row_at rows k)
        (λ f r q s. record {
          follows = subst (λ (x : ℕ). FromTwo sig ins rows (rewrite x side i path) n k m.with m.clause) one f;
          sorted = s.sorted;
          numbered = s.numbered;
        })
        (λ r q a b x. rewrite-step sig ins m r.clause q.clause a.numbered b.numbered a.sorted b.sorted side i path x)
        refl refl e

    -- what the call of a rule answers
    pub replayed : (rule : Rule) → replay sig ins rows rule ≡ Some m → Steps rule
    replayed (R.Axiom a k) e = absurd cc
    replayed R.Goal e = absurd cc
    replayed (R.Given k) e = absurd cc
    replayed (R.Factor n i j) e =
        by-one (R.Factor n i j) (factor i j) (λ g. factored sig ins g i j) n (row_at rows n)
        (λ f r s. record { follows = f; sorted = s.sorted; numbered = s.numbered })
        (λ r a x. factor-step sig ins m r.clause a.numbered a.sorted i j x) refl e
    replayed (R.Reflex n i) e =
        by-one (R.Reflex n i) (reflex i) (λ g. reflexed sig ins g i) n (row_at rows n)
        (λ f r s. record { follows = f; sorted = s.sorted; numbered = s.numbered })
        (λ r a x. reflex-step sig ins m r.clause a.numbered a.sorted i x) refl e
    replayed (R.Resolve n i k j) e =
        by-both (R.Resolve n i k j) (resolve i j) (λ g d. resolved sig ins g i d j) n k (row_at rows n) (row_at rows k)
        (λ f r q s. record { follows = f; sorted = s.sorted; numbered = s.numbered })
        (λ r q a b x. resolve-step sig ins m r.clause q.clause a.numbered b.numbered a.sorted b.sorted i j x)
        refl refl e
    replayed (R.Para n j side k i path) e =
        by-both (R.Para n j side k i path) (para j side i path) (λ g d. paramodulated sig ins g j side d i path) n k
        (row_at rows n) (row_at rows k)
        (λ f r q s. record { follows = f; sorted = s.sorted; numbered = s.numbered })
        (λ r q a b x. para-step sig ins m r.clause q.clause a.numbered b.numbered a.sorted b.sorted j side i path x)
        refl refl e
    replayed (R.Rewrite n j side k i path) e =
        only-one (j == 1) (on_both (row_at rows n) (row_at rows k) (λ g d. rewritten sig ins g side d i path))
        (Steps (R.Rewrite n j side k i path))
        (λ one x. by-rewrite n j side k i path (is-one j one) x) e
    replayed (R.Close n) e =
        by-one (R.Close n) close (λ g. closed_off sig ins g) n (row_at rows n)
        (λ f r s. record { follows = f; sorted = s.sorted; numbered = s.numbered })
        (λ r a x. close-step sig ins m r.clause a.numbered a.sorted x) refl e
