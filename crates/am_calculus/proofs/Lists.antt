-- Lists without a member, and with another one, by numbers from 1.
use Rattle.std.proofs.Common.{◌≡◌, ◌∙◌, ◌||◌, ◌⊎◌, inl, inr, ℕ, zero, suc, Bool, true, refl, ap, subst, sym, List, [], ◌∷◌, map, set, slice_get, Some, option_map}
use Rattle.std.specs.List.{list_any, remove}
use Rattle.am_term.specs.Place.{member, with_member}
use Rattle.am_term.proofs.Tests.{or_cases, or_left, or_right}
use Rattle.am_term.specs.Parts.{without}

module _ {A : Type 0} (test : A → Bool) where
  any-removed : (xs : List A) (i : ℕ) (x : A) → slice_get xs i ≡ Some x → list_any test xs ≡ true → (test x ≡ true) ⊎ (list_any test (remove xs i) ≡ true)
  any-removed [] i x e t = absurd cc
  any-removed (y ∷ ys) zero x e t = let one : y ≡ x = cc in elim (or_cases (test y) (list_any test ys) t) [
    | inl a ↦ inl (subst (λ z. test z ≡ true) one a)
    | inr b ↦ inr b
  ]
  any-removed (y ∷ ys) (suc i) x e t = elim (or_cases (test y) (list_any test ys) t) [
    | inl a ↦ inr (or_left (test y) (list_any test (remove ys i)) a)
    | inr b ↦ elim (any-removed ys i x e b) [
      | inl c ↦ inl c
      | inr c ↦ inr (or_right (test y) (list_any test (remove ys i)) c)
    ]
  ]

  -- some member passes: that one, or one of the others
  pub any-without : (xs : List A) (i : ℕ) (x : A) → member xs i ≡ Some x → list_any test xs ≡ true → (test x ≡ true) ⊎ (list_any test (without xs i) ≡ true)
  any-without xs zero x e t = absurd cc
  any-without xs (suc i) x e t = any-removed xs i x e t

  any-set : (xs : List A) (i : ℕ) (x new : A) → slice_get xs i ≡ Some x → test new ≡ test x → list_any test (set xs i new) ≡ list_any test xs
  any-set [] i x new e t = absurd cc
  any-set (y ∷ ys) zero x new e t = let one : y ≡ x = cc in ap (λ b. b || list_any test ys) (t ∙ ap test (sym one))
  any-set (y ∷ ys) (suc i) x new e t = ap (λ b. test y || b) (any-set ys i x new e t)

  -- another member that passes as the old one did
  pub any-with : (xs : List A) (i : ℕ) (x new : A) → member xs i ≡ Some x → test new ≡ test x → list_any test (with_member xs i new) ≡ list_any test xs
  any-with xs zero x new e t = refl
  any-with xs (suc i) x new e t = any-set xs i x new e t

  any-set-other : (xs : List A) (i : ℕ) (x new : A) → slice_get xs i ≡ Some x → list_any test xs ≡ true → (test x ≡ true) ⊎ (list_any test (set xs i new) ≡ true)
  any-set-other [] i x new e t = absurd cc
  any-set-other (y ∷ ys) zero x new e t = let one : y ≡ x = cc in elim (or_cases (test y) (list_any test ys) t) [
    | inl a ↦ inl (subst (λ z. test z ≡ true) one a)
    | inr b ↦ inr (or_right (test new) (list_any test ys) b)
  ]
  any-set-other (y ∷ ys) (suc i) x new e t = elim (or_cases (test y) (list_any test ys) t) [
    | inl a ↦ inr (or_left (test y) (list_any test (set ys i new)) a)
    | inr b ↦ elim (any-set-other ys i x new e b) [
      | inl c ↦ inl c
      | inr c ↦ inr (or_right (test y) (list_any test (set ys i new)) c)
    ]
  ]

  any-set-new : (xs : List A) (i : ℕ) (x new : A) → slice_get xs i ≡ Some x → test new ≡ true → list_any test (set xs i new) ≡ true
  any-set-new [] i x new e t = absurd cc
  any-set-new (y ∷ ys) zero x new e t = or_left (test new) (list_any test ys) t
  any-set-new (y ∷ ys) (suc i) x new e t = or_right (test y) (list_any test (set ys i new)) (any-set-new ys i x new e t)

  -- some member passes: the one that another comes in the place of, or one of those then
  pub any-other : (xs : List A) (i : ℕ) (x new : A) → member xs i ≡ Some x → list_any test xs ≡ true → (test x ≡ true) ⊎ (list_any test (with_member xs i new) ≡ true)
  any-other xs zero x new e t = absurd cc
  any-other xs (suc i) x new e t = any-set-other xs i x new e t

  -- another member that passes
  pub any-new : (xs : List A) (i : ℕ) (x new : A) → member xs i ≡ Some x → test new ≡ true → list_any test (with_member xs i new) ≡ true
  any-new xs zero x new e t = absurd cc
  any-new xs (suc i) x new e t = any-set-new xs i x new e t

get-map : {A B : Type 0} (f : A → B) (xs : List A) (i : ℕ) → slice_get (map f xs) i ≡ option_map f (slice_get xs i)
get-map f [] i = refl
get-map f (x ∷ xs) zero = refl
get-map f (x ∷ xs) (suc i) = get-map f xs i

pub member-map : {A B : Type 0} (f : A → B) (xs : List A) (i : ℕ) → member (map f xs) i ≡ option_map f (member xs i)
member-map f xs zero = refl
member-map f xs (suc i) = get-map f xs i
