-- The recursion gives a most general unifier, or none where there is no unifier.
use Rattle.std.proofs.Common.{◌≡◌, ◌∙◌, ◌==◌, ◌||◌, ◌&&◌, ◌<◌, ◌++◌, ◌⊎◌, inl, inr, ℕ, Bool, true, false, true≢false, refl, sym, ap, subst, arith, Option, Some, None, List, [], ◌∷◌, length, if◌then◌else◌}
use Rattle.std.specs.List.{zip, AllByRecursion}
use Rattle.std.proofs.lemmas.Bool.Decides.{nat_tests}
use Rattle.std.proofs.lemmas.List.{length-map}
use Rattle.am_term.specs.declared.id.SortId.{SortId}
use Rattle.am_term.specs.declared.id.SymId.{SymId}
use Rattle.am_term.specs.declared.signature.Signature.{Signature}
use Rattle.am_term.specs.declared.term.Term.{Term}
use Rattle.am_term.specs.declared.term.Term.TheOpen.{Term-F}
use Rattle.am_term.specs.declared.term.Term.TheViews.{out-Term}
use Rattle.am_term.specs.declared.term.Term.TheVariants.{Var, In, App, outs-In, outs-App}
use Rattle.am_term.specs.Same.{same_term}
use Rattle.am_term.specs.Sorts.{fits}
use Rattle.am_term.specs.Sorting.{fits_place, sort_of}
use Rattle.am_term.proofs.Alike.{same_term-refl, same_term-sound}
use Rattle.am_term.proofs.Forest.{fits-comparable, fits-same, same_sort-same}
use Rattle.am_term.proofs.Tests.{or_cases, and_left, and_right, and_both, fails}
use Rattle.am_unify.specs.Mgu.{Solver, bind, bind_term, bind_variable, decompose, open_pair, mgu_step, mgu}
use Rattle.am_unify.specs.Occurrence.{number_occurs, number_occurs-Var, number_occurs-In, number_occurs_in, has_given_sorts, has_given_sorts-Var}
use Rattle.am_unify.specs.Substitution.{Substitution, apply, applies, apply-Var, apply-In, apply-App, bound_to, listed, insert_binding, after_binding, replace, replace_in}
use Rattle.am_unify.specs.Unifier.{IsSortedUnder, AreSortedUnder, IsFitting, Unifies, IsUnifier, HasNoUnifier, IsWithin, IsSolution, IsSolved}
use Rattle.am_unify.proofs.Standing.{IsInside, number_same, number_is, stands_left, stands_right, stands_later, replaced_gone}
use Rattle.am_unify.proofs.Smaller.{IsShorter, HasFewer, rest-shorter, arguments-shorter, bound-fewer, pairs_induct}
use Rattle.am_unify.proofs.Steps.{is_var, is_in, is_app, var_stands, mgu-none, mgu-more}
use Rattle.am_unify.proofs.Instances.{Source, apply-compose, apply-agree, has_given_sorts-apply, number_occurs-apply, number_occurs-clash, replace-solved, bound-insert, all-insert, rising-insert}
use Rattle.am_unify.proofs.Keeping.{variable-fits, arguments-posed, zip-posed, posed_sort, posed_valid, sort-kept, app-kept, in-kept, replaced-posed}

never : {A : Type 0} → false ≡ true → A
never e = absurd (true≢false (sym e))

all_map : {X : Type 0} (P Q : X → Type 0) → ((x : X) → P x → Q x) → (xs : List X) → AllByRecursion P xs → AllByRecursion Q xs
all_map P Q h [] k = tt
all_map P Q h (x ∷ xs) k = (h x k.0, all_map P Q h xs k.1)

within_more : (qs ps : List (Term × Term)) → IsInside qs ps → (b : ℕ × Term) → IsWithin qs b → IsWithin ps b
within_more qs ps h b k = record { bound = h.inside b.0 k.bound; inner = λ n e. h.inside n (k.inner n e) }

-- a variable in what a list of bindings gives is the one asked for, or one of the pairs
listed-inner : (qs : List (Term × Term)) (m k : ℕ) (s : SortId) (bs : List (ℕ × Term)) → AllByRecursion (IsWithin qs) bs → number_occurs m (listed bs k s) ≡ true → (m ≡ k) ⊎ (number_occurs_in m qs ≡ true)
listed-inner qs m k s [] h e = inl (number_is m k (sym (number_occurs-Var m k s) ∙ e))
listed-inner qs m k s (b ∷ bs) h e = by_test (listed-inner qs m k s bs h.1) (b.0 == k) e
  where
    by_test : (number_occurs m (listed bs k s) ≡ true → (m ≡ k) ⊎ (number_occurs_in m qs ≡ true)) → (c : Bool) → number_occurs m (if c then b.1 else bound_to bs k (Var k s)) ≡ true → (m ≡ k) ⊎ (number_occurs_in m qs ≡ true)
    by_test rest true d = inr (h.0.inner m d)
    by_test rest false d = rest d

-- applications are equal where their symbols and arguments are
pub record AreAlike (f g : SymId) (ts us : List Term) : Type 0 where
  pub symbols : f ≡ g
  pub arguments : ts ≡ us

pub app-alike : (f g : SymId) (ts us : List Term) → App f ts ≡ App g us → AreAlike f g ts us
app-alike f g ts us e =
    let d : Term-F.App f ts ≡ Term-F.App g us = sym (outs-App f ts) ∙ (ap out-Term e ∙ outs-App g us) in
    record { symbols = cc; arguments = cc }

pub in-app : (k : ℕ) (g : SymId) (us : List Term) → In k ≡ App g us → ⊥
in-app k g us e =
    let d : Term-F.In k ≡ Term-F.App g us = sym (outs-In k) ∙ (ap out-Term e ∙ outs-App g us) in cc

zip-unifies : (θ : Substitution) (ts us : List Term) (ps : List (Term × Term)) → length ts ≡ length us → Unifies θ (zip ts us ++ ps) → (applies θ ts ≡ applies θ us) × Unifies θ ps
zip-unifies θ [] [] ps l h = (refl, h)
zip-unifies θ [] (u ∷ us) ps l h = absurd (omega arith)
zip-unifies θ (t ∷ ts) [] ps l h = absurd (omega arith)
zip-unifies θ (t ∷ ts) (u ∷ us) ps l h =
    let k = zip-unifies θ ts us ps (omega arith) h.1 in
    (ap (λ x. x ∷ applies θ ts) h.0 ∙ ap (λ xs. apply θ u ∷ xs) k.0, k.1)

zip-unified : (θ : Substitution) (ts us : List Term) (ps : List (Term × Term)) → applies θ ts ≡ applies θ us → Unifies θ ps → Unifies θ (zip ts us ++ ps)
zip-unified θ [] us ps e h = h
zip-unified θ (t ∷ ts) [] ps e h = h
zip-unified θ (t ∷ ts) (u ∷ us) ps e h = (cc, zip-unified θ ts us ps (cc) h)

place-comparable : (sig : Signature) (o : Option SortId) (s t : SortId) → fits_place sig o s ≡ true → fits_place sig o t ≡ true → (fits sig s t ≡ true) ⊎ (fits sig t s ≡ true)
place-comparable sig None s t e f = never e
place-comparable sig (Some r) s t e f = fits-comparable sig r s t e f

module _ (sig : Signature) (ins : List SortId) (sorts : ℕ → SortId) where
  -- pairs with the same unifiers
  moved : (qs ps : List (Term × Term)) → ((θ : Substitution) → Unifies θ qs → Unifies θ ps) → ((θ : Substitution) → Unifies θ ps → Unifies θ qs) → IsInside qs ps → (o : Option (List (ℕ × Term))) → IsSolved sig ins sorts qs o → IsSolved sig ins sorts ps o
  moved qs ps there back inside None h = λ θ u. h θ (record { fitting = u.fitting; unifies = back θ u.unifies })
  moved qs ps there back inside (Some bs) h = record {
    most_general = record {
      unifier = record { fitting = h.most_general.unifier.fitting; unifies = there (listed bs) h.most_general.unifier.unifies };
      follows = h.most_general.follows;
      factors = λ θ u. h.most_general.factors θ (record { fitting = u.fitting; unifies = back θ u.unifies });
    };
    rising = h.rising;
    within = all_map (IsWithin qs) (IsWithin ps) (within_more qs ps inside) bs h.within;
  }

  swapped : (t u : Term) (ps : List (Term × Term)) (o : Option (List (ℕ × Term))) → IsSolved sig ins sorts ((u, t) ∷ ps) o → IsSolved sig ins sorts ((t, u) ∷ ps) o
  swapped t u ps = moved ((u, t) ∷ ps) ((t, u) ∷ ps) (λ θ h. (sym h.0, h.1)) (λ θ h. (sym h.0, h.1))
      (record {
        inside = λ n e. elim (or_cases (number_occurs n u || number_occurs n t) (number_occurs_in n ps) e) [
          | inl d ↦ elim (or_cases (number_occurs n u) (number_occurs n t) d) [
            | inl c ↦ stands_right n t u ps c
            | inr c ↦ stands_left n t u ps c
          ]
          | inr d ↦ stands_later n t u ps d
        ];
      })

  -- what factors at variables factors at terms
  pub factors-term : (θ σ : Substitution) → ((n : ℕ) → apply θ (σ n (sorts n)) ≡ θ n (sorts n)) → (t : Term) → has_given_sorts sorts t ≡ true → apply θ (apply σ t) ≡ apply θ t
  factors-term θ σ h t f = apply-compose θ σ t ∙ apply-agree sorts (λ n s. apply θ (σ n s)) θ t f (λ n o. h n)

  -- one binding and then a solution of what is left
  module _ (n : ℕ) (t : Term) (ps : List (Term × Term)) (posed : IsSortedUnder sig ins sorts t) (fit : fits_place sig (sort_of sig ins t) (sorts n) ≡ true)
      (out : number_occurs n t ≡ false) (others : AreSortedUnder sig ins sorts ps) where
    abbrev All : List (Term × Term)
    All = (Var n (sorts n), t) ∷ ps

    solved_replaced : (θ : Substitution) → θ n (sorts n) ≡ apply θ t → (qs : List (Term × Term)) → AreSortedUnder sig ins sorts qs → Unifies θ qs → Unifies θ (replace_in n t qs)
    solved_replaced θ is [] h u = tt
    solved_replaced θ is (p ∷ qs) h u = (
      replace-solved sorts θ n t is p.0 h.0.0.follows ∙ (u.0 ∙ sym (replace-solved sorts θ n t is p.1 h.0.1.follows)),
      solved_replaced θ is qs h.1 u.1,
    )

    made_equal : (θ : Substitution) → Unifies θ All → θ n (sorts n) ≡ apply θ t
    made_equal θ u = sym (apply-Var θ n (sorts n)) ∙ u.0

    left_unified : (θ : Substitution) → IsUnifier sig ins sorts θ All → IsUnifier sig ins sorts θ (replace_in n t ps)
    left_unified θ u = record { fitting = u.fitting; unifies = solved_replaced θ (made_equal θ u.unifies) ps others u.unifies.1 }

    is_fewer : HasFewer (replace_in n t ps) All
    is_fewer = bound-fewer (Var n (sorts n)) t ps n t (stands_left n (Var n (sorts n)) t ps (var_stands n (Var n (sorts n)) (sorts n) refl)) (λ m e. stands_right m (Var n (sorts n)) t ps e) out

    different : (m : ℕ) → number_occurs m t ≡ true → (n == m) ≡ false
    different m o = fails (n == m) (λ e. true≢false (sym (subst (λ x. number_occurs x t ≡ true) (sym (number_is n m e)) o) ∙ out))

    module _ (bs : List (ℕ × Term)) (sol : IsSolution sig ins sorts bs (replace_in n t ps)) where
      abbrev Old : Substitution
      Old = listed bs

      abbrev New : Substitution
      New = listed (insert_binding n (apply (listed bs) t) bs)

      new-at : (m : ℕ) (r : SortId) → New m r ≡ (if n == m then apply Old t else Old m r)
      new-at m r = bound-insert n (apply Old t) bs m (Var m r)

      new-here : (r : SortId) → New n r ≡ apply Old t
      new-here r = new-at n r ∙ ap (λ b. if b then apply Old t else Old n r) (number_same n)

      new-other : (m : ℕ) (r : SortId) → (n == m) ≡ false → New m r ≡ Old m r
      new-other m r e = new-at m r ∙ ap (λ b. if b then apply Old t else Old m r) e

      new-apply : (v : Term) → has_given_sorts sorts v ≡ true → apply New v ≡ apply Old (replace n t v)
      unfolding replace
      new-apply v f = apply-agree sorts New (λ m r. apply Old (listed ((n, t) ∷ []) m r)) v f (λ m o. new-at m (sorts m) ∙ by_test m (n == m)) ∙ sym (apply-compose Old (listed ((n, t) ∷ [])) v)
        where
          by_test : (m : ℕ) (b : Bool) → (if b then apply Old t else Old m (sorts m)) ≡ apply Old (if b then t else Var m (sorts m))
          by_test m true = refl
          by_test m false = sym (apply-Var Old m (sorts m))

      new-term : apply New t ≡ apply Old t
      new-term = apply-agree sorts New Old t posed.follows (λ m o. new-other m (sorts m) (different m o))

      new-unifies : (qs : List (Term × Term)) → AreSortedUnder sig ins sorts qs → Unifies Old (replace_in n t qs) → Unifies New qs
      new-unifies [] h u = tt
      new-unifies (p ∷ qs) h u = (
        new-apply p.0 h.0.0.follows ∙ (u.0 ∙ sym (new-apply p.1 h.0.1.follows)),
        new-unifies qs h.1 u.1,
      )

      new-fits : IsFitting sig ins sorts New
      new-fits m valid = ap (λ x. fits_place sig (sort_of sig ins x) (sorts m)) (new-at m (sorts m)) ∙ by_test (n == m) refl
        where
          by_test : (b : Bool) → (n == m) ≡ b → fits_place sig (sort_of sig ins (if b then apply Old t else Old m (sorts m))) (sorts m) ≡ true
          by_test true is = subst (λ x. fits_place sig (sort_of sig ins (apply Old t)) (sorts x) ≡ true) (number_is n m is)
              (sort-kept sig ins sorts Old sol.most_general.unifier.fitting t posed.follows (sorts n) fit)
          by_test false is = sol.most_general.unifier.fitting m valid

      new-given_sorts : (m : ℕ) → has_given_sorts sorts (New m (sorts m)) ≡ true
      new-given_sorts m = ap (has_given_sorts sorts) (new-at m (sorts m)) ∙ by_test (n == m)
        where
          by_test : (b : Bool) → has_given_sorts sorts (if b then apply Old t else Old m (sorts m)) ≡ true
          by_test true = has_given_sorts-apply sorts Old sol.most_general.follows t posed.follows
          by_test false = sol.most_general.follows m

      new-factors : (θ : Substitution) → IsUnifier sig ins sorts θ All → (m : ℕ) → apply θ (New m (sorts m)) ≡ θ m (sorts m)
      new-factors θ u m = ap (apply θ) (new-at m (sorts m)) ∙ by_test (n == m) refl
        where
          by_test : (b : Bool) → (n == m) ≡ b → apply θ (if b then apply Old t else Old m (sorts m)) ≡ θ m (sorts m)
          by_test true is = factors-term θ Old (sol.most_general.factors θ (left_unified θ u)) t posed.follows ∙ (sym (made_equal θ u.unifies) ∙ ap (λ x. θ x (sorts x)) (number_is n m is))
          by_test false is = sol.most_general.factors θ (left_unified θ u) m

      not_bound : (b : ℕ × Term) → IsWithin (replace_in n t ps) b → (n == b.0) ≡ false
      not_bound b h = fails (n == b.0) (λ e. true≢false (sym (subst (λ x. number_occurs_in x (replace_in n t ps) ≡ true) (sym (number_is n b.0 e)) h.bound) ∙ replaced_gone n t ps out))

      new-inner : (m : ℕ) → number_occurs m (apply Old t) ≡ true → number_occurs_in m All ≡ true
      new-inner m e =
          let from : Source sorts Old m (λ k. number_occurs k t) = number_occurs-apply sorts Old m t posed.follows e in
          elim (listed-inner (replace_in n t ps) m from.from (sorts from.from) bs sol.within from.brings) [
            | inl is ↦ stands_right m (Var n (sorts n)) t ps (subst (λ x. number_occurs x t ≡ true) (sym is) from.stands)
            | inr d ↦ is_fewer.inside.inside m d
          ]

      pub bound-solution : IsSolution sig ins sorts (insert_binding n (apply Old t) bs) All
      bound-solution = record {
        most_general = record {
          unifier = record {
            fitting = new-fits;
            unifies = (apply-Var New n (sorts n) ∙ (new-here (sorts n) ∙ sym new-term), new-unifies ps others sol.most_general.unifier.unifies);
          };
          follows = new-given_sorts;
          factors = new-factors;
        };
        rising = rising-insert n (apply Old t) bs (all_map (IsWithin (replace_in n t ps)) (λ (c : ℕ × Term). (n == c.0) ≡ false) not_bound bs sol.within) sol.rising;
        within = all-insert (IsWithin All) n (apply Old t) bs
            (record { bound = stands_left n (Var n (sorts n)) t ps (var_stands n (Var n (sorts n)) (sorts n) refl); inner = new-inner })
            (all_map (IsWithin (replace_in n t ps)) (IsWithin All) (within_more (replace_in n t ps) All is_fewer.inside) bs sol.within);
      }

    pub bound-solved : (o : Option (List (ℕ × Term))) → IsSolved sig ins sorts (replace_in n t ps) o → IsSolved sig ins sorts All (after_binding n t o)
    bound-solved None h = λ θ u. h θ (left_unified θ u)
    bound-solved (Some bs) h = bound-solution bs h

  -- a term that is no variable: its sort stays, and it is larger than what stands in it
  record IsOther (t : Term) : Type 0 where
    kept : (θ : Substitution) → IsFitting sig ins sorts θ → sort_of sig ins (apply θ t) ≡ sort_of sig ins t
    proper : (n : ℕ) (θ : Substitution) → number_occurs n t ≡ true → θ n (sorts n) ≡ apply θ t → ⊥

  other-in : (k : ℕ) → IsOther (In k)
  other-in k = record {
    kept = λ θ fit. in-kept sig ins sorts θ fit k;
    proper = λ n θ e is. never (sym (number_occurs-In n k) ∙ e);
  }

  other-app : (f : SymId) (args : List Term) → IsSortedUnder sig ins sorts (App f args) → IsOther (App f args)
  other-app f args h = record {
    kept = λ θ fit. app-kept sig ins sorts θ fit f args h;
    proper = λ n θ e is. number_occurs-clash sorts θ n f args h.follows e is;
  }

  module _ (go : Solver) where
    bind-solved : (n : ℕ) (v : Term) (ps : List (Term × Term)) → IsSortedUnder sig ins sorts v → fits_place sig (sort_of sig ins v) (sorts n) ≡ true
        → (number_occurs n v ≡ true → HasNoUnifier sig ins sorts ((Var n (sorts n), v) ∷ ps))
        → AreSortedUnder sig ins sorts ps → (number_occurs n v ≡ false → IsSolved sig ins sorts (replace_in n v ps) (go (replace_in n v ps)))
        → IsSolved sig ins sorts ((Var n (sorts n), v) ∷ ps) (bind sig ins go go n v ps)
    bind-solved n v ps posed fit clash others h = by_test (number_occurs n v) refl
      where
        by_test : (b : Bool) → number_occurs n v ≡ b → IsSolved sig ins sorts ((Var n (sorts n), v) ∷ ps) (if b then None else after_binding n v (go (replace_in n v ps)))
        by_test true e = clash e
        by_test false e = bound-solved n v ps posed fit e others (go (replace_in n v ps)) (h e)

    term-solved : (n : ℕ) (v : Term) (ps : List (Term × Term)) → (sorts n).0 < length sig.sorts → IsSortedUnder sig ins sorts v → IsOther v
        → AreSortedUnder sig ins sorts ps → (fits_place sig (sort_of sig ins v) (sorts n) ≡ true → number_occurs n v ≡ false → IsSolved sig ins sorts (replace_in n v ps) (go (replace_in n v ps)))
        → IsSolved sig ins sorts ((Var n (sorts n), v) ∷ ps) (bind_term sig ins go go n (sorts n) v ps)
    term-solved n v ps valid posed other others h = by_test (fits_place sig (sort_of sig ins v) (sorts n)) refl
      where
        by_test : (b : Bool) → fits_place sig (sort_of sig ins v) (sorts n) ≡ b → IsSolved sig ins sorts ((Var n (sorts n), v) ∷ ps) (if b then bind sig ins go go n v ps else None)
        by_test true e = bind-solved n v ps posed e (λ d θ u. other.proper n θ d (sym (apply-Var θ n (sorts n)) ∙ u.unifies.0)) others (h e)
        by_test false e = λ θ u.
            let is : θ n (sorts n) ≡ apply θ v = sym (apply-Var θ n (sorts n)) ∙ u.unifies.0 in
            true≢false (sym (u.fitting n valid) ∙ (ap (λ x. fits_place sig (sort_of sig ins x) (sorts n)) is ∙ (ap (λ o. fits_place sig o (sorts n)) (other.kept θ u.fitting) ∙ e)))

    variable-solved : (n m : ℕ) (ps : List (Term × Term)) → (n == m) ≡ false → IsSortedUnder sig ins sorts (Var n (sorts n)) → IsSortedUnder sig ins sorts (Var m (sorts m))
        → AreSortedUnder sig ins sorts ps
        → (fits_place sig (sort_of sig ins (Var m (sorts m))) (sorts n) ≡ true → number_occurs n (Var m (sorts m)) ≡ false → IsSolved sig ins sorts (replace_in n (Var m (sorts m)) ps) (go (replace_in n (Var m (sorts m)) ps)))
        → (fits_place sig (sort_of sig ins (Var n (sorts n))) (sorts m) ≡ true → number_occurs m (Var n (sorts n)) ≡ false → IsSolved sig ins sorts (replace_in m (Var n (sorts n)) ps) (go (replace_in m (Var n (sorts n)) ps)))
        → IsSolved sig ins sorts ((Var n (sorts n), Var m (sorts m)) ∷ ps) (bind_variable sig ins go go n (sorts n) m (sorts m) ps)
    variable-solved n m ps apart left right others h k = by_test (fits sig (sorts m) (sorts n)) (fits sig (sorts n) (sorts m)) refl refl
      where
        valid_n : (sorts n).0 < length sig.sorts
        valid_n = posed_valid sig ins sorts n (sorts n) left

        valid_m : (sorts m).0 < length sig.sorts
        valid_m = posed_valid sig ins sorts m (sorts m) right

        apart_too : (m == n) ≡ false
        apart_too = grind (arith, nat_tests)

        by_test : (a b : Bool) → fits sig (sorts m) (sorts n) ≡ a → fits sig (sorts n) (sorts m) ≡ b
            → IsSolved sig ins sorts ((Var n (sorts n), Var m (sorts m)) ∷ ps) (if a then bind sig ins go go n (Var m (sorts m)) ps else if b then bind sig ins go go m (Var n (sorts n)) ps else None)
        by_test true b e f =
            let fit : fits_place sig (sort_of sig ins (Var m (sorts m))) (sorts n) ≡ true = variable-fits sig ins m (sorts m) (sorts n) valid_m e in
            bind-solved n (Var m (sorts m)) ps right fit (λ d. never (sym apart ∙ (sym (number_occurs-Var n m (sorts m)) ∙ d))) others (h fit)
        by_test false true e f =
            let fit : fits_place sig (sort_of sig ins (Var n (sorts n))) (sorts m) ≡ true = variable-fits sig ins n (sorts n) (sorts m) valid_n f in
            swapped (Var n (sorts n)) (Var m (sorts m)) ps (bind sig ins go go m (Var n (sorts n)) ps)
            (bind-solved m (Var n (sorts n)) ps left fit (λ d. never (sym apart_too ∙ (sym (number_occurs-Var m n (sorts n)) ∙ d))) others (k fit))
        by_test false false e f = λ θ u.
            let is : θ m (sorts m) ≡ θ n (sorts n) = sym (apply-Var θ m (sorts m)) ∙ (sym u.unifies.0 ∙ apply-Var θ n (sorts n)) in
            elim (place-comparable sig (sort_of sig ins (θ n (sorts n))) (sorts n) (sorts m) (u.fitting n valid_n) (subst (λ x. fits_place sig (sort_of sig ins x) (sorts m) ≡ true) is (u.fitting m valid_m))) [
              | inl c ↦ true≢false (sym c ∙ f)
              | inr c ↦ true≢false (sym c ∙ e)
            ]

    -- one step
    module _ (t u : Term) (ps : List (Term × Term)) (left : IsSortedUnder sig ins sorts t) (right : IsSortedUnder sig ins sorts u) (others : AreSortedUnder sig ins sorts ps)
        (short : (qs : List (Term × Term)) → IsShorter qs ((t, u) ∷ ps) → AreSortedUnder sig ins sorts qs → IsSolved sig ins sorts qs (go qs))
        (few : (qs : List (Term × Term)) → HasFewer qs ((t, u) ∷ ps) → AreSortedUnder sig ins sorts qs → IsSolved sig ins sorts qs (go qs)) where
      -- after a variable of the one side became the other side
      left-few : (n : ℕ) (s : SortId) → t ≡ Var n s → fits_place sig (sort_of sig ins u) (sorts n) ≡ true → number_occurs n u ≡ false → IsSolved sig ins sorts (replace_in n u ps) (go (replace_in n u ps))
      left-few n s is fit out = few (replace_in n u ps) (bound-fewer t u ps n u (stands_left n t u ps (var_stands n t s is)) (λ m e. stands_right m t u ps e) out) (replaced-posed sig ins sorts n u right fit ps others)

      right-few : (n : ℕ) (s : SortId) → u ≡ Var n s → fits_place sig (sort_of sig ins t) (sorts n) ≡ true → number_occurs n t ≡ false → IsSolved sig ins sorts (replace_in n t ps) (go (replace_in n t ps))
      right-few n s is fit out = few (replace_in n t ps) (bound-fewer t u ps n t (stands_right n t u ps (var_stands n u s is)) (λ m e. stands_left m t u ps e) out) (replaced-posed sig ins sorts n t left fit ps others)

      left_sort : (n : ℕ) (s : SortId) → t ≡ Var n s → s ≡ sorts n
      left_sort n s is = posed_sort sig ins sorts n s (subst (IsSortedUnder sig ins sorts) is left)

      right_sort : (n : ℕ) (s : SortId) → u ≡ Var n s → s ≡ sorts n
      right_sort n s is = posed_sort sig ins sorts n s (subst (IsSortedUnder sig ins sorts) is right)

      left-term : (n : ℕ) (s : SortId) → t ≡ Var n s → IsOther u → IsSolved sig ins sorts ((t, u) ∷ ps) (bind_term sig ins go go n s u ps)
      left-term n s is other =
          let sort : s ≡ sorts n = left_sort n s is in
          let named : Var n (sorts n) ≡ t = ap (Var n) (sym sort) ∙ sym is in
          let valid : (sorts n).0 < length sig.sorts = posed_valid sig ins sorts n (sorts n) (subst (IsSortedUnder sig ins sorts) (sym named) left) in
          subst (λ r. IsSolved sig ins sorts ((t, u) ∷ ps) (bind_term sig ins go go n r u ps)) (sym sort)
          (subst (λ x. IsSolved sig ins sorts ((x, u) ∷ ps) (bind_term sig ins go go n (sorts n) u ps)) named
          (term-solved n u ps valid right other others (left-few n s is)))

      right-term : (n : ℕ) (s : SortId) → u ≡ Var n s → IsOther t → IsSolved sig ins sorts ((t, u) ∷ ps) (bind_term sig ins go go n s t ps)
      right-term n s is other =
          let sort : s ≡ sorts n = right_sort n s is in
          let named : Var n (sorts n) ≡ u = ap (Var n) (sym sort) ∙ sym is in
          let valid : (sorts n).0 < length sig.sorts = posed_valid sig ins sorts n (sorts n) (subst (IsSortedUnder sig ins sorts) (sym named) right) in
          subst (λ r. IsSolved sig ins sorts ((t, u) ∷ ps) (bind_term sig ins go go n r t ps)) (sym sort)
          (subst (λ x. IsSolved sig ins sorts ((t, x) ∷ ps) (bind_term sig ins go go n (sorts n) t ps)) named
          (swapped t (Var n (sorts n)) ps (bind_term sig ins go go n (sorts n) t ps)
          (term-solved n t ps valid left other others (right-few n s is))))

      two-variables : (n m : ℕ) (s r : SortId) → t ≡ Var n s → u ≡ Var m r → same_term t u ≡ false → IsSolved sig ins sorts ((t, u) ∷ ps) (bind_variable sig ins go go n s m r ps)
      two-variables n m s r is are other =
          let sort : s ≡ sorts n = left_sort n s is in
          let sort_too : r ≡ sorts m = right_sort m r are in
          let named : Var n (sorts n) ≡ t = ap (Var n) (sym sort) ∙ sym is in
          let named_too : Var m (sorts m) ≡ u = ap (Var m) (sym sort_too) ∙ sym are in
          let apart : (n == m) ≡ false = fails (n == m) (λ e.
          let one : t ≡ u = sym named ∙ (ap (λ x. Var x (sorts x)) (number_is n m e) ∙ named_too) in
          true≢false (sym (same_term-refl t) ∙ (ap (same_term t) one ∙ other))) in
          subst (λ x. IsSolved sig ins sorts ((t, u) ∷ ps) (bind_variable sig ins go go n x m r ps)) (sym sort)
          (subst (λ x. IsSolved sig ins sorts ((t, u) ∷ ps) (bind_variable sig ins go go n (sorts n) m x ps)) (sym sort_too)
          (subst (λ x. IsSolved sig ins sorts ((x, u) ∷ ps) (bind_variable sig ins go go n (sorts n) m (sorts m) ps)) named
          (subst (λ x. IsSolved sig ins sorts ((Var n (sorts n), x) ∷ ps) (bind_variable sig ins go go n (sorts n) m (sorts m) ps)) named_too
          (variable-solved n m ps apart (subst (IsSortedUnder sig ins sorts) (sym named) left) (subst (IsSortedUnder sig ins sorts) (sym named_too) right) others
          (subst (λ x. fits_place sig (sort_of sig ins x) (sorts n) ≡ true → number_occurs n x ≡ false → IsSolved sig ins sorts (replace_in n x ps) (go (replace_in n x ps))) (sym named_too) (left-few n s is))
          (subst (λ x. fits_place sig (sort_of sig ins x) (sorts m) ≡ true → number_occurs m x ≡ false → IsSolved sig ins sorts (replace_in m x ps) (go (replace_in m x ps))) (sym named) (right-few m r are))))))

      -- other heads have no unifier
      heads-clash : (k : ℕ) (g : SymId) (bs : List Term) (x y : Term) → x ≡ In k → y ≡ App g bs → (θ : Substitution) → apply θ x ≡ apply θ y → ⊥
      heads-clash k g bs x y is are θ e = in-app k g (applies θ bs) (sym (ap (apply θ) is ∙ apply-In θ k) ∙ (e ∙ (ap (apply θ) are ∙ apply-App θ g bs)))

      two-inputs : (k j : ℕ) → t ≡ In k → u ≡ In j → same_term t u ≡ false → HasNoUnifier sig ins sorts ((t, u) ∷ ps)
      two-inputs k j is are other θ h =
          let one : t ≡ u = is ∙ (sym (apply-In θ k) ∙ (sym (ap (apply θ) is) ∙ (h.unifies.0 ∙ (ap (apply θ) are ∙ (apply-In θ j ∙ sym are))))) in
          true≢false (sym (same_term-refl t) ∙ (ap (same_term t) one ∙ other))

      applied_alike : (f g : SymId) (as_ bs : List Term) → t ≡ App f as_ → u ≡ App g bs → (θ : Substitution) → apply θ t ≡ apply θ u → AreAlike f g (applies θ as_) (applies θ bs)
      applied_alike f g as_ bs is are θ e = app-alike f g (applies θ as_) (applies θ bs) (sym (ap (apply θ) is ∙ apply-App θ f as_) ∙ (e ∙ (ap (apply θ) are ∙ apply-App θ g bs)))

      two-applications : (f g : SymId) (as_ bs : List Term) → t ≡ App f as_ → u ≡ App g bs → IsSolved sig ins sorts ((t, u) ∷ ps) (decompose sig ins go go f as_ g bs ps)
      two-applications f g as_ bs is are = by_test (f.0 == g.0 && length as_ == length bs) refl
        where
          by_test : (b : Bool) → (f.0 == g.0 && length as_ == length bs) ≡ b → IsSolved sig ins sorts ((t, u) ∷ ps) (if b then go (zip as_ bs ++ ps) else None)
          by_test true e =
              let symbols : f.0 ≡ g.0 = number_is f.0 g.0 (and_left (f.0 == g.0) (length as_ == length bs) e) in
              let same : f ≡ g = ap (λ (i : ℕ). let x : SymId = record { 0 = i } in x) symbols in
              let counts : length as_ ≡ length bs = number_is (length as_) (length bs) (and_right (f.0 == g.0) (length as_ == length bs) e) in
              moved (zip as_ bs ++ ps) ((t, u) ∷ ps)
              (λ θ h. let k = zip-unifies θ as_ bs ps counts h in (ap (apply θ) is ∙ (apply-App θ f as_ ∙ (ap (λ x. App x (applies θ as_)) same ∙ (ap (App g) k.0 ∙ sym (ap (apply θ) are ∙ apply-App θ g bs)))), k.1))
              (λ θ h. let k : AreAlike f g (applies θ as_) (applies θ bs) = applied_alike f g as_ bs is are θ h.0 in zip-unified θ as_ bs ps k.arguments h.1)
              (let s : IsShorter (zip as_ bs ++ ps) ((t, u) ∷ ps) = arguments-shorter t u ps f g as_ bs is are in s.inside)
              (go (zip as_ bs ++ ps))
              (short (zip as_ bs ++ ps) (arguments-shorter t u ps f g as_ bs is are)
              (zip-posed sig ins sorts as_ bs ps (arguments-posed sig ins sorts f as_ (subst (IsSortedUnder sig ins sorts) is left)) (arguments-posed sig ins sorts g bs (subst (IsSortedUnder sig ins sorts) are right)) others))
          by_test false e = λ θ h.
              let k : AreAlike f g (applies θ as_) (applies θ bs) = applied_alike f g as_ bs is are θ h.unifies.0 in
              let symbols : f.0 ≡ g.0 = ap (λ (x : SymId). x.0) k.symbols in
              let counts : length as_ ≡ length bs = sym (length-map as_ (apply θ)) ∙ (ap length k.arguments ∙ length-map bs (apply θ)) in
              true≢false (sym (and_both (f.0 == g.0) (length as_ == length bs) (subst (λ x. (f.0 == x) ≡ true) symbols (number_same f.0)) (subst (λ x. (length as_ == x) ≡ true) counts (number_same (length as_)))) ∙ e)

      open-solved : (x y : Term-F Term) → out-Term t ≡ x → out-Term u ≡ y → same_term t u ≡ false → IsSolved sig ins sorts ((t, u) ∷ ps) (open_pair sig ins go go t u x y ps)
      open-solved (Term-F.Var n s) (Term-F.Var m r) is are other = two-variables n m s r (is_var t n s is) (is_var u m r are) other
      open-solved (Term-F.Var n s) (Term-F.In j) is are other = left-term n s (is_var t n s is) (subst IsOther (sym (is_in u j are)) (other-in j))
      open-solved (Term-F.Var n s) (Term-F.App g bs) is are other =
          let e : u ≡ App g bs = is_app u g bs are in
          left-term n s (is_var t n s is) (subst IsOther (sym e) (other-app g bs (subst (IsSortedUnder sig ins sorts) e right)))
      open-solved (Term-F.In k) (Term-F.Var m r) is are other = right-term m r (is_var u m r are) (subst IsOther (sym (is_in t k is)) (other-in k))
      open-solved (Term-F.In k) (Term-F.In j) is are other = two-inputs k j (is_in t k is) (is_in u j are) other
      open-solved (Term-F.In k) (Term-F.App g bs) is are other = λ θ h. heads-clash k g bs t u (is_in t k is) (is_app u g bs are) θ h.unifies.0
      open-solved (Term-F.App f as_) (Term-F.Var m r) is are other =
          let e : t ≡ App f as_ = is_app t f as_ is in
          right-term m r (is_var u m r are) (subst IsOther (sym e) (other-app f as_ (subst (IsSortedUnder sig ins sorts) e left)))
      open-solved (Term-F.App f as_) (Term-F.In j) is are other = λ θ h. heads-clash j f as_ u t (is_in u j are) (is_app t f as_ is) θ (sym h.unifies.0)
      open-solved (Term-F.App f as_) (Term-F.App g bs) is are other = two-applications f g as_ bs (is_app t f as_ is) (is_app u g bs are)

      pub step-solved : IsSolved sig ins sorts ((t, u) ∷ ps) (mgu_step sig ins go go (t, u) ps)
      step-solved = by_test (same_term t u) refl
        where
          by_test : (b : Bool) → same_term t u ≡ b → IsSolved sig ins sorts ((t, u) ∷ ps) (if b then go ps else open_pair sig ins go go t u (out-Term t) (out-Term u) ps)
          by_test true e = moved ps ((t, u) ∷ ps) (λ θ h. (ap (apply θ) (same_term-sound t u e), h)) (λ θ h. h.1)
              (let s : IsShorter ps ((t, u) ∷ ps) = rest-shorter t u ps in s.inside) (go ps) (short ps (rest-shorter t u ps) others)
          by_test false e = open-solved (out-Term t) (out-Term u) refl refl e

  none-solved : IsSolved sig ins sorts [] (Some [])
  none-solved = record {
    most_general = record {
      unifier = record { fitting = λ n valid. variable-fits sig ins n (sorts n) (sorts n) valid (fits-same sig (sorts n)); unifies = tt };
      follows = λ n. has_given_sorts-Var sorts n (sorts n) ∙ same_sort-same (sorts n);
      factors = λ θ u n. apply-Var θ n (sorts n);
    };
    rising = tt;
    within = tt;
  }

  pub mgu-solved : (ps : List (Term × Term)) → AreSortedUnder sig ins sorts ps → IsSolved sig ins sorts ps (mgu sig ins ps)
  mgu-solved = pairs_induct (λ ps. AreSortedUnder sig ins sorts ps → IsSolved sig ins sorts ps (mgu sig ins ps))
      (λ h. subst (IsSolved sig ins sorts []) (sym (mgu-none sig ins)) none-solved)
      (λ p ps short few h. subst (IsSolved sig ins sorts (p ∷ ps)) (sym (mgu-more sig ins p ps)) (step-solved (mgu sig ins) p.0 p.1 ps h.0.0 h.0.1 h.1 short few))
