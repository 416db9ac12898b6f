-- Tests, places and maps over lists that are joined.
use Rattle.std.proofs.Common.{◌≡◌, ◌∙◌, ◌||◌, ℕ, Bool, true, false, Option, Some, None, List, [], ◌∷◌, ◌++◌, refl, sym, ap, cond}
use Rattle.std.specs.Prelude.{find}
use Rattle.std.specs.List.{list_any}
use Rattle.std.specs.Str.{bytes_eq}
use Rattle.std.proofs.lemmas.Option.{none-some}
use Rattle.std.proofs.lemmas.List.Folds.{list_any-append}
use Rattle.am_term.specs.NameLists.{is_among}
use Rattle.am_theory.proofs.Appends.{none_both, names-turned}
use Rattle.am_syntax.proofs.Among.{none_left, none_right}

-- ---- a test that nothing passes
module _ {A : Type 0} (test : A → Bool) where
  pub none-front : (xs ys : List A) → list_any test (xs ++ ys) ≡ false → list_any test xs ≡ false
  none-front xs ys e = none_left (list_any test xs) (list_any test ys) (sym (list_any-append test xs ys) ∙ e)

  pub none-behind : (xs ys : List A) → list_any test (xs ++ ys) ≡ false → list_any test ys ≡ false
  none-behind xs ys e = none_right (list_any test xs) (list_any test ys) (sym (list_any-append test xs ys) ∙ e)

  pub none-joined : (xs ys : List A) → list_any test xs ≡ false → list_any test ys ≡ false → list_any test (xs ++ ys) ≡ false
  none-joined xs ys e f = list_any-append test xs ys ∙ none_both (list_any test xs) (list_any test ys) e f

-- where no member passes one test, none passes another that fails as well
pub none-also : {A : Type 0} (p q : A → Bool) → ((x : A) → p x ≡ false → q x ≡ false) → (xs : List A) → list_any p xs ≡ false → list_any q xs ≡ false
none-also p q f [] e = refl
none-also p q f (x ∷ xs) e = none_both (q x) (list_any q xs) (f x (none_left (p x) (list_any p xs) e)) (none-also p q f xs (none_right (p x) (list_any p xs) e))

-- where no member passes either of two tests, none passes one that fails where both do
pub none-either : {A : Type 0} (p q r : A → Bool) → ((x : A) → p x ≡ false → q x ≡ false → r x ≡ false) → (xs : List A) → list_any p xs ≡ false → list_any q xs ≡ false → list_any r xs ≡ false
none-either p q r f [] e h = refl
none-either p q r f (x ∷ xs) e h =
    none_both (r x) (list_any r xs)
    (f x (none_left (p x) (list_any p xs) e) (none_left (q x) (list_any q xs) h))
    (none-either p q r f xs (none_right (p x) (list_any p xs) e) (none_right (q x) (list_any q xs) h))

-- two tests with the same answers
pub any-same : {A : Type 0} (p q : A → Bool) → ((x : A) → p x ≡ q x) → (xs : List A) → list_any p xs ≡ list_any q xs
any-same p q f [] = refl
any-same p q f (x ∷ xs) = ap (λ b. b || list_any p xs) (f x) ∙ ap (λ b. q x || b) (any-same p q f xs)

-- ---- lists of names with nothing in common
none_turned : (ys : List (List ℕ)) (v : List ℕ) → list_any (λ y. bytes_eq y v) ys ≡ false → is_among v ys ≡ false
none_turned ys v e = any-same (bytes_eq v) (λ y. bytes_eq y v) (names-turned v) ys ∙ e

-- no member of ys is the first of vs, and none is a later one
heads : (ys : List (List ℕ)) (v : List ℕ) (vs : List (List ℕ)) → list_any (λ y. is_among y (v ∷ vs)) ys ≡ false → list_any (λ y. bytes_eq y v) ys ≡ false
heads ys v vs e = none-also (λ y. is_among y (v ∷ vs)) (λ y. bytes_eq y v) (λ y f. none_left (bytes_eq y v) (is_among y vs) f) ys e

tails : (ys : List (List ℕ)) (v : List ℕ) (vs : List (List ℕ)) → list_any (λ y. is_among y (v ∷ vs)) ys ≡ false → list_any (λ y. is_among y vs) ys ≡ false
tails ys v vs e = none-also (λ y. is_among y (v ∷ vs)) (λ y. is_among y vs) (λ y f. none_right (bytes_eq y v) (is_among y vs) f) ys e

pub disjoint-turned : (ys vs : List (List ℕ)) → list_any (λ y. is_among y vs) ys ≡ false → list_any (λ v. is_among v ys) vs ≡ false
disjoint-turned ys [] e = refl
disjoint-turned ys (v ∷ vs) e = none_both (is_among v ys) (list_any (λ w. is_among w ys) vs) (none_turned ys v (heads ys v vs e)) (disjoint-turned ys vs (tails ys v vs e))

-- ---- the first member that passes a test
found_none : {A : Type 0} (b : Bool) (x : A) (o : Option A) → cond b (Some x) o ≡ None → (b ≡ false) × (o ≡ None)
found_none true x o e = absurd (none-some x (sym e))
found_none false x o e = (refl, e)

pub find-behind : {A : Type 0} (test : A → Bool) (xs ys : List A) → find test xs ≡ None → find test (xs ++ ys) ≡ find test ys
find-behind test [] ys e = refl
find-behind test (x ∷ xs) ys e = let h = found_none (test x) x (find test xs) e in ap (λ b. cond b (Some x) (find test (xs ++ ys))) h.0 ∙ find-behind test xs ys h.1
