-- Lists without repetitions, made one member at a time.
use Rattle.std.proofs.Common.{◌≡◌, ◌∙◌, ◌&&◌, ◌||◌, Bool, true, false, not, cond, refl, sym, ap, subst, List, [], ◌∷◌, ◌++◌}
use Rattle.std.specs.List.{filter}
use Rattle.std.proofs.lemmas.List.{append-nil, append_assoc}
use Rattle.std.proofs.lemmas.List.Sums.{fold-append}
use Rattle.std.proofs.lemmas.List.Folds.{list_any-append}
use Rattle.am_term.proofs.Tests.{and_left, and_both, not_or, or_false, never_both, same_tests, fails, not_false, true_not}
use Rattle.am_clause.specs.Distinct.{among, distinct, with_one, with_new}

-- filters of filters, and filters that agree
filters_step : {X : Type 0} (p q : X → Bool) (x : X) (xs : List X) → filter p (filter q xs) ≡ filter (λ x. p x && q x) xs
    → (b c : Bool) → q x ≡ b → p x ≡ c → filter p (filter q (x ∷ xs)) ≡ filter (λ x. p x && q x) (x ∷ xs)
filters_step p q x xs h true true e f = rw (e, f) (ap (λ ys. x ∷ ys) h)
filters_step p q x xs h true false e f = rw (e, f) h
filters_step p q x xs h false true e f = rw (e, f) h
filters_step p q x xs h false false e f = rw (e, f) h

pub filters : {X : Type 0} (p q : X → Bool) (xs : List X) → filter p (filter q xs) ≡ filter (λ x. p x && q x) xs
filters p q [] = refl
filters p q (x ∷ xs) = filters_step p q x xs (filters p q xs) (q x) (p x) refl refl

pub filters_agree : {X : Type 0} (p q : X → Bool) → ((x : X) → p x ≡ q x) → (xs : List X) → filter p xs ≡ filter q xs
filters_agree p q h [] = refl
filters_agree p q h (x ∷ xs) = rw (h x) (ap (λ ys. cond (q x) (x ∷ ys) ys) (filters_agree p q h xs))

pub filter_all : {X : Type 0} (p : X → Bool) → ((x : X) → p x ≡ true) → (xs : List X) → filter p xs ≡ xs
filter_all p h [] = refl
filter_all p h (x ∷ xs) = rw (h x) (ap (λ ys. x ∷ ys) (filter_all p h xs))

module _ {X : Type 0} (same : X → X → Bool) where
  pub with_new-none : (seen : List X) → with_new same seen [] ≡ seen
  unfolding with_new
  with_new-none seen = refl

  pub with_new-append : (seen xs ys : List X) → with_new same seen (xs ++ ys) ≡ with_new same (with_new same seen xs) ys
  unfolding with_new
  with_new-append seen xs ys = fold-append (with_one same) seen xs ys

  pub with_new-old : (seen : List X) (x : X) → among same x seen ≡ true → with_new same seen (x ∷ []) ≡ seen
  unfolding with_new
  with_new-old seen x e = rw e

  pub with_new-new : (seen : List X) (x : X) → among same x seen ≡ false → with_new same seen (x ∷ []) ≡ seen ++ x ∷ []
  unfolding with_new
  with_new-new seen x e = rw e

  module _ (sound : (x y : X) → same x y ≡ true → x ≡ y) (whole : (x : X) → same x x ≡ true) where
    -- being new to a list
    abbrev new_to : List X → X → Bool
    new_to seen y = not (among same y seen)

    back : (x y : X) → same x y ≡ true → same y x ≡ true
    back x y e = subst (λ z. same z x ≡ true) (sound x y e) (whole x)

    turned : (x y : X) → same x y ≡ same y x
    turned x y = same_tests (same x y) (same y x) (back x y) (back y x)

    among_same : (x y : X) (seen : List X) → same x y ≡ true → among same x seen ≡ true → among same y seen ≡ true
    among_same x y seen e h = subst (λ z. among same z seen ≡ true) (sound x y e) h

    old : (seen : List X) (x : X) → among same x seen ≡ true → (y : X) → new_to seen y ≡ (new_to seen y && not (same x y))
    old seen x h y = same_tests (new_to seen y) (new_to seen y && not (same x y))
        (λ e. and_both (new_to seen y) (not (same x y)) e (not_false (same x y) (fails (same x y) (λ f. never_both (among same y seen) (among_same x y seen f h) (true_not (among same y seen) e)))))
        (and_left (new_to seen y) (not (same x y)))

    new : (seen : List X) (x y : X) → new_to (seen ++ x ∷ []) y ≡ (new_to seen y && not (same x y))
    new seen x y = ap not (list_any-append (same y) seen (x ∷ []) ∙ ap (λ b. among same y seen || b) (or_false (same y x) ∙ turned y x)) ∙ not_or (among same y seen) (same x y)

    abbrev Grown : List X → List X → Type 0
    Grown seen xs = with_new same seen xs ≡ seen ++ filter (new_to seen) (distinct same xs)

    grown_more : (seen : List X) (x : X) (xs : List X) → ((ys : List X) → Grown ys xs) → (b : Bool) → among same x seen ≡ b → Grown seen (x ∷ xs)
    unfolding with_new
    grown_more seen x xs h true e = rw e (h seen
        ∙ ap (λ ys. seen ++ ys) (filters_agree (new_to seen) (λ y. new_to seen y && not (same x y)) (old seen x e) (distinct same xs)
        ∙ sym (filters (new_to seen) (λ y. not (same x y)) (distinct same xs))))
    grown_more seen x xs h false e = rw e (h (seen ++ x ∷ [])
        ∙ append_assoc seen (x ∷ []) (filter (new_to (seen ++ x ∷ [])) (distinct same xs))
        ∙ ap (λ ys. seen ++ x ∷ ys) (filters_agree (new_to (seen ++ x ∷ [])) (λ y. new_to seen y && not (same x y)) (new seen x) (distinct same xs)
        ∙ sym (filters (new_to seen) (λ y. not (same x y)) (distinct same xs))))

    pub with_new-is : (seen xs : List X) → Grown seen xs
    unfolding with_new
    with_new-is seen [] = sym (append-nil seen)
    with_new-is seen (x ∷ xs) = grown_more seen x xs (λ ys. with_new-is ys xs) (among same x seen) refl

    -- from nothing, the list without repetitions
    pub with_new-distinct : (xs : List X) → with_new same [] xs ≡ distinct same xs
    with_new-distinct xs = with_new-is [] xs ∙ filter_all (new_to []) (λ y. refl) (distinct same xs)
