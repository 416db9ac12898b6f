-- Fitting substitutions keep sorts.
use Rattle.std.proofs.Common.{◌≡◌, ◌∙◌, ◌==◌, ◌<◌, ◌++◌, ℕ, Bool, true, false, true≢false, refl, sym, ap, subst, arith, Option, Some, None, List, [], ◌∷◌, length, slice_get, nat_lt, is_some, if◌then◌else◌}
use Rattle.std.specs.List.{list_all, zip, AllByRecursion}
use Rattle.std.proofs.lemmas.Bool.Decides.{nat_tests}
use Rattle.am_term.specs.declared.id.SortId.{SortId}
use Rattle.am_term.specs.declared.id.SymId.{SymId}
use Rattle.am_term.specs.declared.symbol.Symbol.{Symbol}
use Rattle.am_term.specs.declared.signature.Signature.{Signature}
use Rattle.am_term.specs.declared.term.Term.{Term}
use Rattle.am_term.specs.declared.term.Term.TheVariants.{Var, In, App}
use Rattle.am_term.specs.Induct.{term_induct}
use Rattle.am_term.specs.Sorts.{fits}
use Rattle.am_term.specs.Sorting.{fits_place, fit_places, result_at, sort_of, sorts_of, sort_of-Var, sort_of-App}
use Rattle.am_term.proofs.Forest.{fits-same, fits-trans, same_sort-same}
use Rattle.am_term.proofs.Tests.{and_left, and_right, and_both}
use Rattle.am_unify.specs.Occurrence.{has_given_sorts, has_given_sorts-Var, has_given_sorts-App}
use Rattle.am_unify.specs.Substitution.{Substitution, apply, applies, apply-Var, apply-In, apply-App, listed, replace, replace_in}
use Rattle.am_unify.specs.Unifier.{IsSortedUnder, AreSortedUnder, IsFitting}
use Rattle.am_unify.proofs.Standing.{number_is}
use Rattle.am_unify.proofs.Instances.{given_sort, has_given_sorts-apply}

never : {A : Type 0} → false ≡ true → A
never e = absurd (true≢false (sym e))

module _ (sig : Signature) where
  pub place-trans : (o : Option SortId) (s p : SortId) → fits_place sig o s ≡ true → fits sig s p ≡ true → fits_place sig o p ≡ true
  place-trans None s p e f = never e
  place-trans (Some r) s p e f = fits-trans sig r s p e f

  pub place-some : (o : Option SortId) (p : SortId) → fits_place sig o p ≡ true → is_some o ≡ true
  place-some None p e = never e
  place-some (Some s) p e = refl

  pub record HasPlace (o : Option SortId) : Type 0 where
    pub place : SortId
    pub there : fits_place sig o place ≡ true

  pub some-place : (o : Option SortId) → is_some o ≡ true → HasPlace o
  some-place None e = never e
  some-place (Some s) e = record { place = s; there = fits-same sig s }

  -- a symbol's result depends on its arguments only so far as they fit
  result-same : (o : Option Symbol) (rs qs : List (Option SortId)) → ((ps : List SortId) → fit_places sig rs ps ≡ true → fit_places sig qs ps ≡ true) → is_some (result_at sig o rs) ≡ true → result_at sig o qs ≡ result_at sig o rs
  result-same None rs qs h e = refl
  result-same (Some y) rs qs h e = by_test (fit_places sig rs y.args) refl e
    where
      by_test : (b : Bool) → fit_places sig rs y.args ≡ b → is_some (if b then y.result else None) ≡ true → result_at sig (Some y) qs ≡ result_at sig (Some y) rs
      by_test true is d = ap (λ b. if b then y.result else None) (h y.args is ∙ sym is)
      by_test false is d = never d

  pub record Places (rs : List (Option SortId)) : Type 0 where
    pub places : List SortId
    pub fit : fit_places sig rs places ≡ true

  result-places : (o : Option Symbol) (rs : List (Option SortId)) → is_some (result_at sig o rs) ≡ true → Places rs
  result-places None rs e = never e
  result-places (Some y) rs e = by_test (fit_places sig rs y.args) refl e
    where
      by_test : (b : Bool) → fit_places sig rs y.args ≡ b → is_some (if b then y.result else None) ≡ true → Places rs
      by_test true is d = record { places = y.args; fit = is }
      by_test false is d = never d

  module _ (ins : List SortId) where
    pub sort_of-valid : (n : ℕ) (s : SortId) → is_some (sort_of sig ins (Var n s)) ≡ true → s.0 < length sig.sorts
    sort_of-valid n s e = by_test (nat_lt s.0 (length sig.sorts)) refl (sym (ap is_some (sort_of-Var sig ins n s)) ∙ e)
      where
        by_test : (b : Bool) → nat_lt s.0 (length sig.sorts) ≡ b → is_some (if b then Some s else None) ≡ true → s.0 < length sig.sorts
        by_test true is d = grind (arith, nat_tests)
        by_test false is d = never d

    pub sort_of-variable : (n : ℕ) (s : SortId) → s.0 < length sig.sorts → sort_of sig ins (Var n s) ≡ Some s
    sort_of-variable n s h = sort_of-Var sig ins n s ∙ (let t : nat_lt s.0 (length sig.sorts) ≡ true = grind (arith, nat_tests) in ap (λ b. if b then Some s else None) t)

    -- a variable fits its sort
    pub variable-fits : (n : ℕ) (s p : SortId) → s.0 < length sig.sorts → fits sig s p ≡ true → fits_place sig (sort_of sig ins (Var n s)) p ≡ true
    variable-fits n s p h e = ap (λ o. fits_place sig o p) (sort_of-variable n s h) ∙ e

    module _ (sorts : ℕ → SortId) where
      places-posed : (ts : List Term) (ps : List SortId) → list_all (has_given_sorts sorts) ts ≡ true → fit_places sig (sorts_of sig ins ts) ps ≡ true → AllByRecursion (IsSortedUnder sig ins sorts) ts
      places-posed [] ps f e = tt
      places-posed (t ∷ ts) [] f e = never e
      places-posed (t ∷ ts) (p ∷ ps) f e = (
        record {
          sorted = place-some (sort_of sig ins t) p (and_left (fits_place sig (sort_of sig ins t) p) (fit_places sig (sorts_of sig ins ts) ps) e);
          follows = and_left (has_given_sorts sorts t) (list_all (has_given_sorts sorts) ts) f;
        },
        places-posed ts ps (and_right (has_given_sorts sorts t) (list_all (has_given_sorts sorts) ts) f) (and_right (fits_place sig (sort_of sig ins t) p) (fit_places sig (sorts_of sig ins ts) ps) e),
      )

      -- so are the arguments
      pub arguments-posed : (f : SymId) (args : List Term) → IsSortedUnder sig ins sorts (App f args) → AllByRecursion (IsSortedUnder sig ins sorts) args
      arguments-posed f args h =
          let p : Places (sorts_of sig ins args) = result-places (slice_get sig.symbols f.0) (sorts_of sig ins args) (sym (ap is_some (sort_of-App sig ins f args)) ∙ h.sorted) in
          places-posed args p.places (sym (has_given_sorts-App sorts f args) ∙ h.follows) p.fit

      pub zip-posed : (ts us : List Term) (ps : List (Term × Term)) → AllByRecursion (IsSortedUnder sig ins sorts) ts → AllByRecursion (IsSortedUnder sig ins sorts) us → AreSortedUnder sig ins sorts ps → AreSortedUnder sig ins sorts (zip ts us ++ ps)
      zip-posed [] us ps h k l = l
      zip-posed (t ∷ ts) [] ps h k l = l
      zip-posed (t ∷ ts) (u ∷ us) ps h k l = ((h.0, k.0), zip-posed ts us ps h.1 k.1 l)

      pub posed_sort : (n : ℕ) (s : SortId) → IsSortedUnder sig ins sorts (Var n s) → s ≡ sorts n
      posed_sort n s h = given_sort sorts n s h.follows

      pub posed_valid : (n : ℕ) (s : SortId) → IsSortedUnder sig ins sorts (Var n s) → s.0 < length sig.sorts
      posed_valid n s h = sort_of-valid n s h.sorted

      module _ (θ : Substitution) (fit : IsFitting sig ins sorts θ) where
        abbrev KeepsTerm : Term → Type 0
        KeepsTerm t = has_given_sorts sorts t ≡ true → (p : SortId) → fits_place sig (sort_of sig ins t) p ≡ true → fits_place sig (sort_of sig ins (apply θ t)) p ≡ true

        abbrev KeepsTerms : List Term → Type 0
        KeepsTerms ts = list_all (has_given_sorts sorts) ts ≡ true → (ps : List SortId) → fit_places sig (sorts_of sig ins ts) ps ≡ true → fit_places sig (sorts_of sig ins (applies θ ts)) ps ≡ true

        keeps_variable : (n : ℕ) (s : SortId) → KeepsTerm (Var n s)
        keeps_variable n s f p e =
            let valid : s.0 < length sig.sorts = sort_of-valid n s (place-some (sort_of sig ins (Var n s)) p e) in
            let is : s ≡ sorts n = given_sort sorts n s f in
            let below : fits sig s p ≡ true = sym (ap (λ o. fits_place sig o p) (sort_of-variable n s valid)) ∙ e in
            let image : fits_place sig (sort_of sig ins (θ n s)) s ≡ true = subst (λ r. fits_place sig (sort_of sig ins (θ n r)) r ≡ true) (sym is) (fit n (subst (λ (r : SortId). r.0 < length sig.sorts) is valid)) in
            ap (λ t. fits_place sig (sort_of sig ins t) p) (apply-Var θ n s) ∙ place-trans (sort_of sig ins (θ n s)) s p image below

        result-kept : (f : SymId) (args : List Term) → KeepsTerms args → has_given_sorts sorts (App f args) ≡ true → is_some (sort_of sig ins (App f args)) ≡ true → sort_of sig ins (apply θ (App f args)) ≡ sort_of sig ins (App f args)
        result-kept f args h g e =
            ap (sort_of sig ins) (apply-App θ f args) ∙ (sort_of-App sig ins f (applies θ args)
            ∙ (result-same (slice_get sig.symbols f.0) (sorts_of sig ins args) (sorts_of sig ins (applies θ args)) (h (sym (has_given_sorts-App sorts f args) ∙ g)) (sym (ap is_some (sort_of-App sig ins f args)) ∙ e)
            ∙ sym (sort_of-App sig ins f args)))

        keeps_more : (t : Term) (ts : List Term) → KeepsTerm t → KeepsTerms ts → KeepsTerms (t ∷ ts)
        keeps_more t ts h k f [] e = never e
        keeps_more t ts h k f (p ∷ ps) e = and_both (fits_place sig (sort_of sig ins (apply θ t)) p) (fit_places sig (sorts_of sig ins (applies θ ts)) ps)
            (h (and_left (has_given_sorts sorts t) (list_all (has_given_sorts sorts) ts) f) p (and_left (fits_place sig (sort_of sig ins t) p) (fit_places sig (sorts_of sig ins ts) ps) e))
            (k (and_right (has_given_sorts sorts t) (list_all (has_given_sorts sorts) ts) f) ps (and_right (fits_place sig (sort_of sig ins t) p) (fit_places sig (sorts_of sig ins ts) ps) e))

        -- the sort stays or falls
        pub sort-kept : (t : Term) → KeepsTerm t
        sort-kept = term_induct KeepsTerm KeepsTerms keeps_variable
            (λ k f p e. ap (λ t. fits_place sig (sort_of sig ins t) p) (apply-In θ k) ∙ e)
            (λ g args h f p e. ap (λ o. fits_place sig o p) (result-kept g args h f (place-some (sort_of sig ins (App g args)) p e)) ∙ e)
            (λ f ps e. e)
            keeps_more

        sorts-kept : (ts : List Term) → KeepsTerms ts
        sorts-kept [] f ps e = e
        sorts-kept (t ∷ ts) f ps e = keeps_more t ts (sort-kept t) (sorts-kept ts) f ps e

        -- the sort of a term that is no variable stays
        pub app-kept : (f : SymId) (args : List Term) → IsSortedUnder sig ins sorts (App f args) → sort_of sig ins (apply θ (App f args)) ≡ sort_of sig ins (App f args)
        app-kept f args h = result-kept f args (sorts-kept args) h.follows h.sorted

        pub in-kept : (k : ℕ) → sort_of sig ins (apply θ (In k)) ≡ sort_of sig ins (In k)
        in-kept k = ap (sort_of sig ins) (apply-In θ k)

        pub apply-posed : ((n : ℕ) → has_given_sorts sorts (θ n (sorts n)) ≡ true) → (t : Term) → IsSortedUnder sig ins sorts t → IsSortedUnder sig ins sorts (apply θ t)
        apply-posed h t k =
            let p : HasPlace (sort_of sig ins t) = some-place (sort_of sig ins t) k.sorted in
            record {
              sorted = place-some (sort_of sig ins (apply θ t)) p.place (sort-kept t k.follows p.place p.there);
              follows = has_given_sorts-apply sorts θ h t k.follows;
            }

      module _ (n : ℕ) (t : Term) (posed : IsSortedUnder sig ins sorts t) (fit : fits_place sig (sort_of sig ins t) (sorts n) ≡ true) where
        one-fits : IsFitting sig ins sorts (listed ((n, t) ∷ []))
        one-fits m valid = by_test (n == m) refl
          where
            by_test : (b : Bool) → (n == m) ≡ b → fits_place sig (sort_of sig ins (if b then t else Var m (sorts m))) (sorts m) ≡ true
            by_test true is = subst (λ x. fits_place sig (sort_of sig ins t) (sorts x) ≡ true) (number_is n m is) fit
            by_test false is = variable-fits m (sorts m) (sorts m) valid (fits-same sig (sorts m))

        one-given_sorts : (m : ℕ) → has_given_sorts sorts (listed ((n, t) ∷ []) m (sorts m)) ≡ true
        one-given_sorts m = by_test (n == m)
          where
            by_test : (b : Bool) → has_given_sorts sorts (if b then t else Var m (sorts m)) ≡ true
            by_test true = posed.follows
            by_test false = has_given_sorts-Var sorts m (sorts m) ∙ same_sort-same (sorts m)

        replace-posed : (u : Term) → IsSortedUnder sig ins sorts u → IsSortedUnder sig ins sorts (replace n t u)
        unfolding replace
        replace-posed = apply-posed (listed ((n, t) ∷ [])) one-fits one-given_sorts

        pub replaced-posed : (ps : List (Term × Term)) → AreSortedUnder sig ins sorts ps → AreSortedUnder sig ins sorts (replace_in n t ps)
        replaced-posed [] h = tt
        replaced-posed (p ∷ ps) h = ((replace-posed p.0 h.0.0, replace-posed p.1 h.0.1), replaced-posed ps h.1)
