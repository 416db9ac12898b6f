-- Merging on the way: what is merged first and then multiplied, and what is too long for good.
use Rattle.std.proofs.Common.{◌≡◌, ◌∙◌, ◌&&◌, ◌||◌, ◌⊎◌, inl, inr, ◌≤◌, ℕ, Bool, true, false, not, cond, refl, sym, ap, subst, arith, List, [], ◌∷◌, ◌++◌, length, map}
use Rattle.std.specs.Prelude.{Some, None, nat_lt}
use Rattle.std.specs.List.{list_any, filter}
use Rattle.std.proofs.lemmas.Bool.Decides.{nat_tests}
use Rattle.std.proofs.lemmas.List.{length-append, map-append}
use Rattle.std.proofs.lemmas.List.Folds.{list_any-append}
use Rattle.am_term.specs.declared.term.Literal.{Literal}
use Rattle.am_term.specs.Same.{same_literal}
use Rattle.am_term.proofs.Alike.{same_literal-refl, same_literal-sound}
use Rattle.am_term.proofs.Tests.{or_cases, or_left, or_right, and_true, and_comm}
use Rattle.am_clause.specs.Distinct.{among, distinct, with_new}
use Rattle.am_clause.specs.Merge.{merged}
use Rattle.am_clause.specs.ClauseForm.{Lists, followed, product}
use Rattle.am_clause.specs.Bounded.{widened_by, widened, is_long, fitted, bounded, both, fitted_product, are_none}
use Rattle.am_clause.proofs.Firsts.{filters, filters_agree, with_new-append, with_new-is}
use Rattle.am_clause.proofs.Members.{any-distinct, distinct-fewer}
use Rattle.am_clause.proofs.Merges.{all-merged}

-- what passes a test, without repetitions
module _ {X : Type 0} (same : X → X → Bool) (sound : (x y : X) → same x y ≡ true → x ≡ y) where
  same_as : (p : X → Bool) (x : X) → p x ≡ false → (y : X) → (b : Bool) → same x y ≡ b → (p y && not (same x y)) ≡ p y
  same_as p x e y true f = let g : p y ≡ false = subst (λ z. p z ≡ false) (sound x y f) e in rw g refl
  same_as p x e y false f = rw f (and_true (p y))

  distinct-filter : (p : X → Bool) (xs : List X) → distinct same (filter p xs) ≡ filter p (distinct same xs)
  distinct-filter p [] = refl
  distinct-filter p (x ∷ xs) = by (p x) refl (distinct-filter p xs)
    where
      other : X → Bool
      other y = not (same x y)

      by : (b : Bool) → p x ≡ b → distinct same (filter p xs) ≡ filter p (distinct same xs)
          → distinct same (cond (p x) (x ∷ filter p xs) (filter p xs)) ≡ cond (p x) (x ∷ filter p (filter (λ y. not (same x y)) (distinct same xs))) (filter p (filter (λ y. not (same x y)) (distinct same xs)))
      by true e h = rw e (ap (λ ys. x ∷ ys) (ap (filter other) h
          ∙ (filters other p (distinct same xs)
          ∙ (filters_agree (λ y. other y && p y) (λ y. p y && other y) (λ y. and_comm (other y) (p y)) (distinct same xs)
          ∙ sym (filters p other (distinct same xs))))))
      by false e h = rw e (h
          ∙ (sym (filters_agree (λ y. p y && other y) p (λ y. same_as p x e y (same x y) refl) (distinct same xs))
          ∙ sym (filters p other (distinct same xs))))

  pub distinct-again : (xs : List X) → distinct same (distinct same xs) ≡ distinct same xs
  distinct-again [] = refl
  distinct-again (x ∷ xs) = ap (λ ys. x ∷ ys) (ap (filter (λ y. not (same x y))) (distinct-filter (λ y. not (same x y)) (distinct same xs))
      ∙ (filters (λ y. not (same x y)) (λ y. not (same x y)) (distinct same (distinct same xs))
      ∙ (filters_agree (λ y. not (same x y) && not (same x y)) (λ y. not (same x y)) (λ y. twice (not (same x y))) (distinct same (distinct same xs))
      ∙ ap (filter (λ y. not (same x y))) (distinct-again xs))))
    where
      twice : (b : Bool) → (b && b) ≡ b
      twice true = refl
      twice false = refl

add_all : (kept ls : List Literal) → with_new same_literal kept ls ≡ kept ++ filter (λ y. not (among same_literal y kept)) (distinct same_literal ls)
add_all kept ls = with_new-is same_literal same_literal-sound same_literal-refl kept ls

-- adding what is merged is adding all
add_merged : (kept ls : List Literal) → with_new same_literal kept (merged ls) ≡ with_new same_literal kept ls
add_merged kept ls = add_all kept (merged ls) ∙ (ap (λ xs. kept ++ filter (λ y. not (among same_literal y kept)) xs) (distinct-again same_literal same_literal-sound ls) ∙ sym (add_all kept ls))

after_merged : (a b : List Literal) → with_new same_literal (merged a) b ≡ merged (a ++ b)
after_merged a b = ap (λ xs. with_new same_literal xs b) (sym (all-merged a)) ∙ (sym (with_new-append same_literal [] a b) ∙ all-merged (a ++ b))

pub merged-both : (a b : List Literal) → with_new same_literal (merged a) (merged b) ≡ merged (a ++ b)
merged-both a b = add_merged (merged a) b ∙ after_merged a b

widened-by : (a : List Literal) (bs : Lists) → widened_by (merged a) (map merged bs) ≡ map merged (followed a bs)
unfolding widened_by followed
widened-by a [] = refl
widened-by a (b ∷ bs) = ap (λ c. c ∷ map (with_new same_literal (merged a)) (map merged bs)) (merged-both a b) ∙ ap (λ cs. merged (a ++ b) ∷ cs) (widened-by a bs)

widened-merged : (as_ bs : Lists) → widened (map merged as_) (map merged bs) ≡ map merged (product as_ bs)
unfolding widened product
widened-merged [] bs = refl
widened-merged (a ∷ as_) bs = ap (λ cs. cs ++ widened (map merged as_) (map merged bs)) (widened-by a bs)
    ∙ (ap (λ cs. map merged (followed a bs) ++ cs) (widened-merged as_ bs) ∙ sym (map-append merged (followed a bs) (product as_ bs)))

-- a part has no more different literals than the whole
shorter_left : (a b : List Literal) → length (merged a) ≤ length (merged (a ++ b))
shorter_left a b = omega (arith, ap length (sym (after_merged a b) ∙ add_all (merged a) b), length-append (merged a) (filter (λ y. not (among same_literal y (merged a))) (distinct same_literal b)))

shorter_right : (a b : List Literal) → length (merged b) ≤ length (merged (a ++ b))
shorter_right a b = distinct-fewer same_literal same_literal-sound same_literal-refl b (merged (a ++ b))
    (λ x m. any-distinct same_literal same_literal-sound same_literal-refl (same_literal x) (a ++ b)
    ∙ (list_any-append (same_literal x) a b ∙ or_right (among same_literal x a) (among same_literal x b) m))

still_above : (most m n : ℕ) → m ≤ n → nat_lt most m ≡ true → nat_lt most n ≡ true
still_above most m n h e = grind (arith, nat_tests)

module _ (most : ℕ) where
  -- too long, once merged
  abbrev is_past : List Literal → Bool
  is_past ls = is_long most (merged ls)

  any-map : (cs : Lists) → list_any (is_long most) (map merged cs) ≡ list_any is_past cs
  any-map [] = refl
  any-map (c ∷ cs) = ap (λ b. is_past c || b) (any-map cs)

  past_left : (a b : List Literal) → is_past a ≡ true → is_past (a ++ b) ≡ true
  past_left a b e = still_above most (length (merged a)) (length (merged (a ++ b))) (shorter_left a b) e

  past_right : (a b : List Literal) → is_past b ≡ true → is_past (a ++ b) ≡ true
  past_right a b e = still_above most (length (merged b)) (length (merged (a ++ b))) (shorter_right a b) e

  followed_left : (a : List Literal) (bs : Lists) → is_past a ≡ true → are_none bs ≡ false → list_any is_past (followed a bs) ≡ true
  unfolding followed are_none
  followed_left a [] e h = absurd cc
  followed_left a (b ∷ bs) e h = or_left (is_past (a ++ b)) (list_any is_past (map (λ b. a ++ b) bs)) (past_left a b e)

  followed_right : (a : List Literal) (bs : Lists) → list_any is_past bs ≡ true → list_any is_past (followed a bs) ≡ true
  unfolding followed
  followed_right a [] e = e
  followed_right a (b ∷ bs) e = by (or_cases (is_past b) (list_any is_past bs) e) (followed_right a bs)
    where
      by : (is_past b ≡ true) ⊎ (list_any is_past bs ≡ true) → (list_any is_past bs ≡ true → list_any is_past (map (λ b. a ++ b) bs) ≡ true)
          → (is_past (a ++ b) || list_any is_past (map (λ b. a ++ b) bs)) ≡ true
      by (inl p) h = or_left (is_past (a ++ b)) (list_any is_past (map (λ b. a ++ b) bs)) (past_right a b p)
      by (inr p) h = or_right (is_past (a ++ b)) (list_any is_past (map (λ b. a ++ b) bs)) (h p)

  product_left : (as_ bs : Lists) → list_any is_past as_ ≡ true → are_none bs ≡ false → list_any is_past (product as_ bs) ≡ true
  unfolding product
  product_left [] bs e h = e
  product_left (a ∷ as_) bs e h = list_any-append is_past (followed a bs) (product as_ bs) ∙ by (or_cases (is_past a) (list_any is_past as_) e) (λ p. product_left as_ bs p h)
    where
      by : (is_past a ≡ true) ⊎ (list_any is_past as_ ≡ true) → (list_any is_past as_ ≡ true → list_any is_past (product as_ bs) ≡ true)
          → (list_any is_past (followed a bs) || list_any is_past (product as_ bs)) ≡ true
      by (inl p) k = or_left (list_any is_past (followed a bs)) (list_any is_past (product as_ bs)) (followed_left a bs p h)
      by (inr p) k = or_right (list_any is_past (followed a bs)) (list_any is_past (product as_ bs)) (k p)

  product_right : (as_ bs : Lists) → are_none as_ ≡ false → list_any is_past bs ≡ true → list_any is_past (product as_ bs) ≡ true
  unfolding product are_none
  product_right [] bs h e = absurd cc
  product_right (a ∷ as_) bs h e = list_any-append is_past (followed a bs) (product as_ bs) ∙ or_left (list_any is_past (followed a bs)) (list_any is_past (product as_ bs)) (followed_right a bs e)

  fits : (cs : Lists) → list_any (is_long most) cs ≡ false → fitted most cs ≡ Some cs
  unfolding fitted
  fits cs e = rw e refl

  fits_not : (cs : Lists) → list_any (is_long most) cs ≡ true → fitted most cs ≡ None
  unfolding fitted
  fits_not cs e = rw e refl

  fitted-append : (as_ bs : Lists) → fitted most (as_ ++ bs) ≡ both (fitted most as_) (fitted most bs)
  unfolding fitted both
  fitted-append as_ bs = by (list_any (is_long most) as_) (list_any (is_long most) bs) refl refl
    where
      by : (b c : Bool) → list_any (is_long most) as_ ≡ b → list_any (is_long most) bs ≡ c → fitted most (as_ ++ bs) ≡ both (fitted most as_) (fitted most bs)
      by true c e f = rw (list_any-append (is_long most) as_ bs, e) refl
      by false true e f = rw (list_any-append (is_long most) as_ bs, e, f) refl
      by false false e f = rw (list_any-append (is_long most) as_ bs, e, f) refl

  pub bounded-append : (as_ bs : Lists) → bounded most (as_ ++ bs) ≡ both (bounded most as_) (bounded most bs)
  unfolding bounded
  bounded-append as_ bs = ap (fitted most) (map-append merged as_ bs) ∙ fitted-append (map merged as_) (map merged bs)

  pub bounded-product : (as_ bs : Lists) → are_none as_ ≡ false → are_none bs ≡ false → bounded most (product as_ bs) ≡ fitted_product most (bounded most as_) (bounded most bs)
  unfolding bounded fitted_product
  bounded-product as_ bs h k = by (list_any is_past as_) (list_any is_past bs) refl refl
    where
      by : (b c : Bool) → list_any is_past as_ ≡ b → list_any is_past bs ≡ c
          → fitted most (map merged (product as_ bs)) ≡ fitted_product most (fitted most (map merged as_)) (fitted most (map merged bs))
      by true c e f = rw (fits_not (map merged (product as_ bs)) (any-map (product as_ bs) ∙ product_left as_ bs e k), fits_not (map merged as_) (any-map as_ ∙ e)) refl
      by false true e f = rw (fits_not (map merged (product as_ bs)) (any-map (product as_ bs) ∙ product_right as_ bs h f), fits (map merged as_) (any-map as_ ∙ e), fits_not (map merged bs) (any-map bs ∙ f)) refl
      by false false e f = rw (fits (map merged as_) (any-map as_ ∙ e), fits (map merged bs) (any-map bs ∙ f)) (ap (fitted most) (sym (widened-merged as_ bs)))

  pub bounded-some : (cs made : Lists) → bounded most cs ≡ Some made → (made ≡ map merged cs) × (list_any (is_long most) (map merged cs) ≡ false)
  unfolding bounded
  bounded-some cs made e = by (list_any (is_long most) (map merged cs)) refl
    where
      by : (b : Bool) → list_any (is_long most) (map merged cs) ≡ b → (made ≡ map merged cs) × (list_any (is_long most) (map merged cs) ≡ false)
      by true f = let g : fitted most (map merged cs) ≡ None = fits_not (map merged cs) f in absurd cc
      by false f = let g : fitted most (map merged cs) ≡ Some (map merged cs) = fits (map merged cs) f in (cc, f)

  pub bounded-none : (cs : Lists) → bounded most cs ≡ None → list_any (is_long most) (map merged cs) ≡ true
  unfolding bounded
  bounded-none cs e = by (list_any (is_long most) (map merged cs)) refl
    where
      by : (b : Bool) → list_any (is_long most) (map merged cs) ≡ b → list_any (is_long most) (map merged cs) ≡ true
      by true f = f
      by false f = let g : fitted most (map merged cs) ≡ Some (map merged cs) = fits (map merged cs) f in absurd cc
