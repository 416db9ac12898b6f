-- Matching gives the one instance, or none where there is none.
use Rattle.std.proofs.Common.{◌≡◌, ◌≢◌, ◌∙◌, ◌==◌, ◌||◌, ◌&&◌, ◌+◌, ◌<◌, ℕ, suc, Bool, true, false, true≢false, refl, sym, ap, subst, arith, Option, Some, None, List, [], ◌∷◌, map, drop, length, get_or, nat_lt, if◌then◌else◌, drop-cons, add-one}
use Rattle.std.specs.List.{list_any, AllByRecursion}
use Rattle.std.proofs.lemmas.Bool.Decides.{nat_tests}
use Rattle.std.proofs.lemmas.Grind.{common_steps}
use Rattle.std.proofs.lemmas.List.{length-map}
use Rattle.am_term.specs.declared.id.SortId.{SortId}
use Rattle.am_term.specs.declared.id.SymId.{SymId}
use Rattle.am_term.specs.declared.signature.Signature.{Signature}
use Rattle.am_term.specs.declared.term.Term.{Term}
use Rattle.am_term.specs.declared.term.Term.TheOpen.{Term-F}
use Rattle.am_term.specs.declared.term.Term.TheViews.{out-Term, the_lemmas}
use Rattle.am_term.specs.declared.term.Term.TheVariants.{Var, In, App}
use Rattle.am_term.specs.Induct.{term_induct}
use Rattle.am_term.specs.Same.{is_in, same_term, same_term-In}
use Rattle.am_term.specs.Sorting.{fits_place, sort_of}
use Rattle.am_term.proofs.Alike.{same_term-refl, same_term-sound}
use Rattle.am_term.proofs.Forest.{fits-same}
use Rattle.am_term.proofs.Tests.{and_left, and_right, and_both, or_assoc, or_comm, or_true, or_false}
use Rattle.am_unify.specs.Matching.{IsInstance, is_bound, IsMatch, IsMatched, held, PatternMatch, and_then, match_all, bind_held, match_app, matched, matched-Var, matched-In, matched-App, matched_laws}
use Rattle.am_unify.specs.Occurrence.{number_occurs, number_occurs-Var, number_occurs-In, number_occurs-App}
use Rattle.am_unify.specs.Substitution.{Substitution, apply, applies, apply-Var, apply-In, apply-App, bound_to, listed, insert_binding, IsRising}
use Rattle.am_unify.specs.Unifier.{IsSortedUnder, IsFitting}
use Rattle.am_unify.proofs.Standing.{number_same, number_is}
use Rattle.am_unify.proofs.Steps.{is_var, is_in as is_input, is_app}
use Rattle.am_unify.proofs.Instances.{all-insert, rising-insert}
use Rattle.am_unify.proofs.Keeping.{variable-fits, arguments-posed, posed_sort, posed_valid}
use Rattle.am_unify.proofs.Solved.{AreAlike, app-alike, in-app}
use Rattle.am_unify.proofs.Renamed.{app-var, heads, tails}

never : {A : Type 0} → false ≡ true → A
never e = absurd (true≢false (sym e))

-- what holds of all, with one more, holds of that one and of all
all-inserted : (P : ℕ × Term → Type 0) (n : ℕ) (t : Term) (bs : List (ℕ × Term)) → AllByRecursion P (insert_binding n t bs) → P (n, t) × AllByRecursion P bs
all-inserted P n t [] h = (h.0, tt)
all-inserted P n t (b ∷ bs) h = by_test (all-inserted P n t bs) (nat_lt b.0 n) h
  where
    by_test : (AllByRecursion P (insert_binding n t bs) → P (n, t) × AllByRecursion P bs) → (l : Bool) → AllByRecursion P (if l then b ∷ insert_binding n t bs else (n, t) ∷ b ∷ bs) → P (n, t) × AllByRecursion P (b ∷ bs)
    by_test k true d = let e = k d.1 in (e.0, (d.0, e.1))
    by_test k false d = (d.0, d.1)

or_swap : (a b c : Bool) → (a || (b || c)) ≡ (b || (a || c))
or_swap true true c = refl
or_swap true false c = refl
or_swap false b c = refl

bound-inserted : (m n : ℕ) (t : Term) (bs : List (ℕ × Term)) → is_bound m (insert_binding n t bs) ≡ ((m == n) || is_bound m bs)
bound-inserted m n t [] = refl
bound-inserted m n t (b ∷ bs) = by_test (bound-inserted m n t bs) (nat_lt b.0 n)
  where
    by_test : is_bound m (insert_binding n t bs) ≡ ((m == n) || is_bound m bs) → (l : Bool) → is_bound m (if l then b ∷ insert_binding n t bs else (n, t) ∷ b ∷ bs) ≡ ((m == n) || is_bound m (b ∷ bs))
    by_test k true = ap (λ x. (m == b.0) || x) k ∙ or_swap (m == b.0) (m == n) (is_bound m bs)
    by_test k false = refl

-- a number that isn't held is bound nowhere
held-none : (n : ℕ) (t : Term) (bs : List (ℕ × Term)) → held bs n t ≡ None → AllByRecursion (λ (c : ℕ × Term). (n == c.0) ≡ false) bs
held-none n t [] e = tt
held-none n t (b ∷ bs) e = by_test (held-none n t bs) (b.0 == n) refl e
  where
    by_test : (held bs n t ≡ None → AllByRecursion (λ (c : ℕ × Term). (n == c.0) ≡ false) bs) → (c : Bool) → (b.0 == n) ≡ c → (if c then Some (same_term b.1 t) else held bs n t) ≡ None → AllByRecursion (λ (c : ℕ × Term). (n == c.0) ≡ false) (b ∷ bs)
    by_test k true is d = absurd cc
    by_test k false is d = (grind (arith, nat_tests), k d)

held-bound : (n : ℕ) (t : Term) (bs : List (ℕ × Term)) (r : Bool) → held bs n t ≡ Some r → is_bound n bs ≡ true
held-bound n t [] r e = absurd cc
held-bound n t (b ∷ bs) r e = by_test (held-bound n t bs r) (b.0 == n) refl e
  where
    by_test : (held bs n t ≡ Some r → is_bound n bs ≡ true) → (c : Bool) → (b.0 == n) ≡ c → (if c then Some (same_term b.1 t) else held bs n t) ≡ Some r → is_bound n (b ∷ bs) ≡ true
    by_test k true is d = let e : (n == b.0) ≡ true = grind (arith, nat_tests) in ap (λ x. x || is_bound n bs) e
    by_test k false is d = ap (λ x. (n == b.0) || x) (k d) ∙ or_true (n == b.0)

module _ (sorts : ℕ → SortId) where
  -- a substitution that gives each bound number its term
  abbrev pub Solves : Substitution → List (ℕ × Term) → Type 0
  Solves θ bs = AllByRecursion (λ b. θ b.0 (sorts b.0) ≡ b.1) bs

  held-solved : (n : ℕ) (t : Term) (bs : List (ℕ × Term)) (r : Bool) → held bs n t ≡ Some r → (θ : Substitution) → Solves θ bs → same_term (θ n (sorts n)) t ≡ r
  held-solved n t [] r e θ h = absurd cc
  held-solved n t (b ∷ bs) r e θ h = by_test (λ d. held-solved n t bs r d θ h.1) (b.0 == n) refl e
    where
      by_test : (held bs n t ≡ Some r → same_term (θ n (sorts n)) t ≡ r) → (c : Bool) → (b.0 == n) ≡ c → (if c then Some (same_term b.1 t) else held bs n t) ≡ Some r → same_term (θ n (sorts n)) t ≡ r
      by_test k true is d =
          let one : θ n (sorts n) ≡ b.1 = ap (λ x. θ x (sorts x)) (sym (number_is b.0 n is)) ∙ h.0 in
          let two : same_term b.1 t ≡ r = cc in
          ap (λ x. same_term x t) one ∙ two
      by_test k false is d = k d

  -- bindings in order solve themselves
  solves-later : (b : ℕ × Term) (bs cs : List (ℕ × Term)) → AllByRecursion (λ (c : ℕ × Term). b.0 < c.0) cs → Solves (listed bs) cs → Solves (listed (b ∷ bs)) cs
  solves-later b bs [] h k = tt
  solves-later b bs (c ∷ cs) h k = (
    (let less : b.0 < c.0 = h.0 in
        let other : (b.0 == c.0) ≡ false = grind (arith, nat_tests) in
        ap (λ x. if x then b.1 else bound_to bs c.0 (Var c.0 (sorts c.0))) other ∙ k.0),
    solves-later b bs cs h.1 k.1,
  )

  solves-self : (bs : List (ℕ × Term)) → IsRising bs → Solves (listed bs) bs
  solves-self [] h = tt
  solves-self (b ∷ bs) h = (
    ap (λ x. if x then b.1 else bound_to bs b.0 (Var b.0 (sorts b.0))) (number_same b.0),
    solves-later b bs bs h.0 (solves-self bs h.1),
  )

  solves-at : (θ : Substitution) (n : ℕ) (bs : List (ℕ × Term)) → Solves θ bs → is_bound n bs ≡ true → θ n (sorts n) ≡ listed bs n (sorts n)
  solves-at θ n [] h e = never e
  solves-at θ n (b ∷ bs) h e = by_test (solves-at θ n bs h.1) (b.0 == n) (n == b.0) refl refl e
    where
      by_test : (is_bound n bs ≡ true → θ n (sorts n) ≡ listed bs n (sorts n)) → (c d : Bool) → (b.0 == n) ≡ c → (n == b.0) ≡ d → (d || is_bound n bs) ≡ true → θ n (sorts n) ≡ (if c then b.1 else bound_to bs n (Var n (sorts n)))
      by_test k true d is are f = ap (λ x. θ x (sorts x)) (sym (number_is b.0 n is)) ∙ h.0
      by_test k false true is are f = absurd (grind (arith, nat_tests))
      by_test k false false is are f = k f

module _ (sig : Signature) (ins : List SortId) (sorts : ℕ → SortId) where
  -- a binding to a term that fits
  abbrev Fit : ℕ × Term → Type 0
  Fit b = fits_place sig (sort_of sig ins b.1) (sorts b.0) ≡ true

  listed-fits : (bs : List (ℕ × Term)) → AllByRecursion Fit bs → IsFitting sig ins sorts (listed bs)
  listed-fits [] h n valid = variable-fits sig ins n (sorts n) (sorts n) valid (fits-same sig (sorts n))
  listed-fits (b ∷ bs) h n valid = by_test (listed-fits bs h.1 n valid) (b.0 == n) refl
    where
      by_test : fits_place sig (sort_of sig ins (listed bs n (sorts n))) (sorts n) ≡ true → (c : Bool) → (b.0 == n) ≡ c → fits_place sig (sort_of sig ins (if c then b.1 else bound_to bs n (Var n (sorts n)))) (sorts n) ≡ true
      by_test k true is = subst (λ x. fits_place sig (sort_of sig ins b.1) (sorts x) ≡ true) (number_is b.0 n is) h.0
      by_test k false is = k

  -- the bindings cs say what bs say, and what is asked besides
  record Extends (test : ℕ → Bool) (Asked : Substitution → Type 0) (bs cs : List (ℕ × Term)) : Type 0 where
    solves : (θ : Substitution) → Solves sorts θ cs → Solves sorts θ bs × Asked θ
    solved : (θ : Substitution) → Solves sorts θ bs → Asked θ → Solves sorts θ cs
    rising : IsRising bs → IsRising cs
    exact : (n : ℕ) → is_bound n cs ≡ (is_bound n bs || test n)
    fits : AllByRecursion Fit bs → AllByRecursion Fit cs

  abbrev Claim : (ℕ → Bool) → (Substitution → Type 0) → List (ℕ × Term) → Option (List (ℕ × Term)) → Type 0
  Claim test Asked bs None = (θ : Substitution) → IsFitting sig ins sorts θ → Solves sorts θ bs → Asked θ → ⊥
  Claim test Asked bs (Some cs) = Extends test Asked bs cs

  moved : (test next : ℕ → Bool) (Asked Wanted : Substitution → Type 0) (bs : List (ℕ × Term)) → ((n : ℕ) → test n ≡ next n) → ((θ : Substitution) → Asked θ → Wanted θ) → ((θ : Substitution) → Wanted θ → Asked θ) → (o : Option (List (ℕ × Term))) → Claim test Asked bs o → Claim next Wanted bs o
  moved test next Asked Wanted bs same there back None h = λ θ fit s w. h θ fit s (back θ w)
  moved test next Asked Wanted bs same there back (Some cs) h = record {
    solves = λ θ s. let k = h.solves θ s in (k.0, there θ k.1);
    solved = λ θ s w. h.solved θ s (back θ w);
    rising = h.rising;
    exact = λ n. h.exact n ∙ ap (λ x. is_bound n bs || x) (same n);
    fits = h.fits;
  }

  -- one after the other
  chained : (test next : ℕ → Bool) (Asked Wanted : Substitution → Type 0) (bs cs : List (ℕ × Term)) → Extends test Asked bs cs → (o : Option (List (ℕ × Term))) → Claim next Wanted cs o → Claim (λ n. test n || next n) (λ θ. Asked θ × Wanted θ) bs o
  chained test next Asked Wanted bs cs h None k = λ θ fit s w. k θ fit (h.solved θ s w.0) w.1
  chained test next Asked Wanted bs cs h (Some ds) k = record {
    solves = λ θ s. let a = k.solves θ s in let b = h.solves θ a.0 in (b.0, (b.1, a.1));
    solved = λ θ s w. k.solved θ (h.solved θ s w.0) w.1;
    rising = λ r. k.rising (h.rising r);
    exact = λ n. k.exact n ∙ (ap (λ x. x || next n) (h.exact n) ∙ or_assoc (is_bound n bs) (test n) (next n));
    fits = λ f. k.fits (h.fits f);
  }

  abbrev Matches : Term → Type 0
  Matches t = IsSortedUnder sig ins sorts t → (u : Term) (bs : List (ℕ × Term)) → Claim (λ n. number_occurs n t) (λ θ. apply θ t ≡ u) bs (matched sig ins t u bs)

  abbrev MatchAll : List Term → Type 0
  MatchAll ts = AllByRecursion (IsSortedUnder sig ins sorts) ts → (us : List Term) (bs : List (ℕ × Term)) → length ts ≡ length us → Claim (λ n. list_any (number_occurs n) ts) (λ θ. applies θ ts ≡ us) bs (match_all (map (matched sig ins) ts) us bs)

  module _ (n : ℕ) (s : SortId) (posed : IsSortedUnder sig ins sorts (Var n s)) (u : Term) (bs : List (ℕ × Term)) where
    sort : s ≡ sorts n
    sort = posed_sort sig ins sorts n s posed

    valid : (sorts n).0 < length sig.sorts
    valid = subst (λ (r : SortId). r.0 < length sig.sorts) sort (posed_valid sig ins sorts n s posed)

    at_variable : (θ : Substitution) → apply θ (Var n s) ≡ θ n (sorts n)
    at_variable θ = apply-Var θ n s ∙ ap (θ n) sort

    stands : (m : ℕ) (b : Bool) → (m == n) ≡ b → is_bound n bs ≡ true → is_bound m bs ≡ (is_bound m bs || b)
    stands m true e h =
        let k : is_bound m bs ≡ true = subst (λ x. is_bound x bs ≡ true) (sym (number_is m n e)) h in
        k ∙ sym (ap (λ x. x || true) k)
    stands m false e h = sym (or_false (is_bound m bs))

    fresh : (b : Bool) → fits_place sig (sort_of sig ins u) s ≡ b → held bs n u ≡ None → Claim (λ m. number_occurs m (Var n s)) (λ θ. apply θ (Var n s) ≡ u) bs (if b then Some (insert_binding n u bs) else None)
    fresh true fit e = record {
      solves = λ θ h. let k = all-inserted (λ (b : ℕ × Term). θ b.0 (sorts b.0) ≡ b.1) n u bs h in (k.1, at_variable θ ∙ k.0);
      solved = λ θ h is. all-insert (λ (b : ℕ × Term). θ b.0 (sorts b.0) ≡ b.1) n u bs (sym (at_variable θ) ∙ is) h;
      rising = λ h. rising-insert n u bs (held-none n u bs e) h;
      exact = λ m. bound-inserted m n u bs ∙ (or_comm (m == n) (is_bound m bs) ∙ ap (λ x. is_bound m bs || x) (sym (number_occurs-Var m n s)));
      fits = λ h. all-insert Fit n u bs (subst (λ r. fits_place sig (sort_of sig ins u) r ≡ true) sort fit) h;
    }
    fresh false fit e = λ θ fitting h is.
        let one : θ n (sorts n) ≡ u = sym (at_variable θ) ∙ is in
        let a : fits_place sig (sort_of sig ins u) (sorts n) ≡ true = subst (λ t. fits_place sig (sort_of sig ins t) (sorts n) ≡ true) one (fitting n valid) in
        true≢false (sym a ∙ (ap (fits_place sig (sort_of sig ins u)) (sym sort) ∙ fit))

    by_held : (o : Option Bool) → held bs n u ≡ o → Claim (λ m. number_occurs m (Var n s)) (λ θ. apply θ (Var n s) ≡ u) bs (bind_held sig ins n s u bs o)
    by_held (Some true) e = record {
      solves = λ θ h. (h, at_variable θ ∙ same_term-sound (θ n (sorts n)) u (held-solved sorts n u bs true e θ h));
      solved = λ θ h is. h;
      rising = λ h. h;
      exact = λ m. stands m (m == n) refl (held-bound n u bs true e) ∙ ap (λ x. is_bound m bs || x) (sym (number_occurs-Var m n s));
      fits = λ h. h;
    }
    by_held (Some false) e = λ θ fitting h is.
        let one : θ n (sorts n) ≡ u = sym (at_variable θ) ∙ is in
        true≢false (sym (same_term-refl u) ∙ (ap (λ x. same_term x u) (sym one) ∙ held-solved sorts n u bs false e θ h))
    by_held None e = fresh (fits_place sig (sort_of sig ins u) s) refl e

    variable-matches : Claim (λ m. number_occurs m (Var n s)) (λ θ. apply θ (Var n s) ≡ u) bs (matched sig ins (Var n s) u bs)
    variable-matches = subst (Claim (λ m. number_occurs m (Var n s)) (λ θ. apply θ (Var n s) ≡ u) bs) (sym (matched-Var sig ins n s u bs)) (by_held (held bs n u) refl)

  input-matches : (k : ℕ) → Matches (In k)
  input-matches k posed u bs = subst (Claim (λ m. number_occurs m (In k)) (λ θ. apply θ (In k) ≡ u) bs) (sym (matched-In sig ins k u bs)) (by_test (is_in k (out-Term u)) refl)
    where
      by_test : (b : Bool) → is_in k (out-Term u) ≡ b → Claim (λ m. number_occurs m (In k)) (λ θ. apply θ (In k) ≡ u) bs (if b then Some bs else None)
      by_test true e = record {
        solves = λ θ h. (h, apply-In θ k ∙ same_term-sound (In k) u (same_term-In k u ∙ e));
        solved = λ θ h is. h;
        rising = λ h. h;
        exact = λ m. sym (or_false (is_bound m bs)) ∙ ap (λ x. is_bound m bs || x) (sym (number_occurs-In m k));
        fits = λ h. h;
      }
      by_test false e = λ θ fitting h is.
          let one : In k ≡ u = sym (apply-In θ k) ∙ is in
          true≢false (sym (same_term-refl (In k)) ∙ (ap (same_term (In k)) one ∙ (same_term-In k u ∙ e)))

  application-matches : (f : SymId) (args : List Term) → MatchAll args → Matches (App f args)
  application-matches f args h posed u bs = subst (Claim (λ m. number_occurs m (App f args)) (λ θ. apply θ (App f args) ≡ u) bs) (sym (matched-App sig ins f args u bs)) (by_kind (out-Term u) refl)
    where
      by_count : (g : SymId) (us : List Term) (b : Bool) → u ≡ App g us → (f.0 == g.0 && length (map (matched sig ins) args) == length us) ≡ b
          → Claim (λ m. number_occurs m (App f args)) (λ θ. apply θ (App f args) ≡ u) bs (if b then match_all (map (matched sig ins) args) us bs else None)
      by_count g us true is e =
          let same : f ≡ g = ap (λ (i : ℕ). let x : SymId = record { 0 = i } in x) (number_is f.0 g.0 (and_left (f.0 == g.0) (length (map (matched sig ins) args) == length us) e)) in
          let counts : length args ≡ length us = sym (length-map args (matched sig ins)) ∙ number_is (length (map (matched sig ins) args)) (length us) (and_right (f.0 == g.0) (length (map (matched sig ins) args) == length us) e) in
          moved (λ m. list_any (number_occurs m) args) (λ m. number_occurs m (App f args)) (λ θ. applies θ args ≡ us) (λ θ. apply θ (App f args) ≡ u) bs
          (λ m. sym (number_occurs-App m f args))
          (λ θ d. apply-App θ f args ∙ (ap (App f) d ∙ (ap (λ x. App x us) same ∙ sym is)))
          (λ θ d. let a : AreAlike f g (applies θ args) us = app-alike f g (applies θ args) us (sym (apply-App θ f args) ∙ (d ∙ is)) in a.arguments)
          (match_all (map (matched sig ins) args) us bs)
          (h (arguments-posed sig ins sorts f args posed) us bs counts)
      by_count g us false is e = λ θ fitting s d.
          let a : AreAlike f g (applies θ args) us = app-alike f g (applies θ args) us (sym (apply-App θ f args) ∙ (d ∙ is)) in
          let symbols : f.0 ≡ g.0 = ap (λ (x : SymId). x.0) a.symbols in
          let counts : length (map (matched sig ins) args) ≡ length us = length-map args (matched sig ins) ∙ (sym (length-map args (apply θ)) ∙ ap length a.arguments) in
          true≢false (sym (and_both (f.0 == g.0) (length (map (matched sig ins) args) == length us) (subst (λ x. (f.0 == x) ≡ true) symbols (number_same f.0)) (subst (λ x. (length (map (matched sig ins) args) == x) ≡ true) counts (number_same (length (map (matched sig ins) args))))) ∙ e)

      by_kind : (x : Term-F Term) → out-Term u ≡ x → Claim (λ m. number_occurs m (App f args)) (λ θ. apply θ (App f args) ≡ u) bs (match_app sig ins f (map (matched sig ins) args) x bs)
      by_kind (Term-F.Var n s) is = λ θ fitting k d. app-var f (applies θ args) n s (sym (apply-App θ f args) ∙ (d ∙ is_var u n s is))
      by_kind (Term-F.In j) is = λ θ fitting k d. in-app j f (applies θ args) (sym (sym (apply-App θ f args) ∙ (d ∙ is_input u j is)))
      by_kind (Term-F.App g us) is = by_count g us (f.0 == g.0 && length (map (matched sig ins) args) == length us) (is_app u g us is) refl

  none-match : MatchAll []
  none-match h [] bs l = record {
    solves = λ θ k. (k, refl);
    solved = λ θ k is. k;
    rising = λ k. k;
    exact = λ n. sym (or_false (is_bound n bs));
    fits = λ k. k;
  }
  none-match h (u ∷ us) bs l = absurd (omega arith)

  more-match : (t : Term) (ts : List Term) → Matches t → MatchAll ts → MatchAll (t ∷ ts)
  more-match t ts h k p [] bs l = absurd (omega arith)
  more-match t ts h k p (u ∷ us) bs l = by_test (matched sig ins t u bs) (h p.0 u bs)
    where
      by_test : (o : Option (List (ℕ × Term))) → Claim (λ n. number_occurs n t) (λ θ. apply θ t ≡ u) bs o
          → Claim (λ n. number_occurs n t || list_any (number_occurs n) ts) (λ θ. applies θ (t ∷ ts) ≡ (u ∷ us)) bs (and_then o (match_all (map (matched sig ins) ts) us))
      by_test None c = λ θ fitting s e. c θ fitting s (heads (apply θ t) u (applies θ ts) us e)
      by_test (Some cs) c = moved (λ n. number_occurs n t || list_any (number_occurs n) ts) (λ n. number_occurs n t || list_any (number_occurs n) ts) (λ θ. (apply θ t ≡ u) × (applies θ ts ≡ us)) (λ θ. applies θ (t ∷ ts) ≡ (u ∷ us)) bs
          (λ n. refl)
          (λ θ e. ap (λ x. x ∷ applies θ ts) e.0 ∙ ap (λ xs. u ∷ xs) e.1)
          (λ θ e. (heads (apply θ t) u (applies θ ts) us e, tails (apply θ t) u (applies θ ts) us e))
          (match_all (map (matched sig ins) ts) us cs)
          (chained (λ n. number_occurs n t) (λ n. list_any (number_occurs n) ts) (λ θ. apply θ t ≡ u) (λ θ. applies θ ts ≡ us) bs cs c (match_all (map (matched sig ins) ts) us cs) (k p.1 us cs (omega arith)))

  term-matches : (t : Term) → Matches t
  term-matches = term_induct Matches MatchAll (λ n s posed u bs. variable-matches n s posed u bs) input-matches application-matches none-match more-match

  answered : (pattern term : Term) (o : Option (List (ℕ × Term))) → Claim (λ n. number_occurs n pattern) (λ θ. apply θ pattern ≡ term) [] o → IsMatched sig ins sorts pattern term o
  answered pattern term None h = λ θ k. h θ k.fitting tt k.equal
  answered pattern term (Some cs) h =
      let rising : IsRising cs = h.rising tt in
      record {
        matches = record { fitting = listed-fits cs (h.fits tt); equal = let k = h.solves (listed cs) (solves-self sorts cs rising) in k.1 };
        rising = rising;
        exact = h.exact;
        only = λ θ e n o. solves-at sorts θ n cs (h.solved θ tt e) (h.exact n ∙ o);
      }

  pub matched-answer : (pattern term : Term) → IsSortedUnder sig ins sorts pattern → IsMatched sig ins sorts pattern term (matched sig ins pattern term [])
  matched-answer pattern term posed = answered pattern term (matched sig ins pattern term []) (term-matches pattern posed term [])

-- what is left decides

pub held_at : (bs : List (ℕ × Term)) (i n : ℕ) (t : Term) (x : ℕ × Term) → i < length bs → held (drop i bs) n t ≡ (let b = get_or bs i x in if b.0 == n then Some (same_term b.1 t) else held (drop (i + 1) bs) n t)
held_at bs i n t x h = rw (add-one, drop-cons bs i x) refl

match_all-count : (ms : List PatternMatch) (ts : List Term) (bs : List (ℕ × Term)) → length ms ≢ length ts → match_all ms ts bs ≡ None
match_all-count [] [] bs h = absurd (h refl)
match_all-count [] (t ∷ ts) bs h = refl
match_all-count (m ∷ ms) [] bs h = refl
match_all-count (m ∷ ms) (t ∷ ts) bs h = by_test (λ cs. match_all-count ms ts cs (λ e. h (ap suc e))) (m t bs)
  where
    by_test : ((cs : List (ℕ × Term)) → match_all ms ts cs ≡ None) → (o : Option (List (ℕ × Term))) → and_then o (match_all ms ts) ≡ None
    by_test k None = refl
    by_test k (Some cs) = k cs

pub all-count : (sig : Signature) (ins : List SortId) (ps ts : List Term) (bs : List (ℕ × Term)) → length ps ≢ length ts → match_all (map (matched sig ins) ps) ts bs ≡ None
all-count sig ins ps ts bs h = match_all-count (map (matched sig ins) ps) ts bs (λ e. h (sym (length-map ps (matched sig ins)) ∙ e))

pub all_at : (sig : Signature) (ins : List SortId) (ps ts : List Term) (bs : List (ℕ × Term)) (i : ℕ) (x y : Term) → i < length ps → i < length ts → match_all (map (matched sig ins) (drop i ps)) (drop i ts) bs ≡ and_then (matched sig ins (get_or ps i x) (get_or ts i y) bs) (match_all (map (matched sig ins) (drop (i + 1) ps)) (drop (i + 1) ts))
all_at sig ins ps ts bs i x y h k = rw (add-one, drop-cons ps i x, drop-cons ts i y) refl

pub ruleset matches = (common_steps)

pub ruleset extending = (common_steps, nat_tests, the_lemmas, matched_laws, all-count, all_at)

pub ruleset binding = (common_steps)

pub ruleset holding = (common_steps, nat_tests, held_at)

pub ruleset inputs = (common_steps, nat_tests, the_lemmas)
