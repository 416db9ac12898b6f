-- The forest of sorts: a sort fits itself and what stands above it.
use Rattle.std.proofs.Common.{◌≡◌, ◌∙◌, ◌<◌, ◌≤◌, ◌||◌, ◌⊎◌, inl, inr, ℕ, zero, suc, Bool, true, false, refl, sym, ap, subst, arith, Option, Some, None, if◌then◌else◌, slice_get, nat_lt, true≢false}
use Rattle.std.proofs.lemmas.Bool.Decides.{nat_tests}
use Rattle.am_term.specs.declared.id.SortId.{SortId}
use Rattle.am_term.specs.declared.signature.Signature.{Signature}
use Rattle.am_term.specs.Sorts.{same_sort, below, parent, at_parent, fits_within, fits_in, fits, root_within, root_in, root, akin_in, akin}

pub same_sort-same : (s : SortId) → same_sort s s ≡ true
same_sort-same s = grind (arith, nat_tests)

pub same_sort-is : (s t : SortId) → same_sort s t ≡ true → s ≡ t
same_sort-is s t e = let n : s.0 ≡ t.0 = grind (arith, nat_tests) in ap (λ (i : ℕ). let r : SortId = record { 0 = i } in r) n

pub below-lower : (o : Option (Option SortId)) (s p : SortId) → below s o ≡ Some p → p.0 < s.0
below-lower None s p e = absurd cc
below-lower (Some None) s p e = absurd cc
below-lower (Some (Some q)) s p e = by_test (nat_lt q.0 s.0) refl e
  where
    by_test : (b : Bool) → nat_lt q.0 s.0 ≡ b → (if b then Some q else None) ≡ Some p → p.0 < s.0
    by_test true t e = let same : q ≡ p = cc in subst (λ (x : SortId). x.0 < s.0) same (grind (arith, nat_tests))
    by_test false t e = absurd cc

-- what is done at a parent may be done otherwise, if it comes to the same
pub at_parent-same : {A : Type 0} (o : Option SortId) (f g : SortId → A) (d : A) → ((p : SortId) → o ≡ Some p → f p ≡ g p) → at_parent o f d ≡ at_parent o g d
at_parent-same None f g d h = refl
at_parent-same (Some p) f g d h = h p refl

or_false : (b : Bool) → (b || false) ≡ b
or_false true = refl
or_false false = refl

module _ (sig : Signature) where
  pub parent-lower : (s p : SortId) → parent sig s ≡ Some p → p.0 < s.0
  parent-lower s p e = below-lower (slice_get sig.parents s.0) s p e

  -- the first sort has no parent
  first_alone : (s : SortId) (o : Option SortId) → s.0 ≤ 0 → parent sig s ≡ o → o ≡ None
  first_alone s None h e = refl
  first_alone s (Some p) h e = let l = parent-lower s p e in absurd (omega arith)

  -- what is counted doesn't matter, if it is enough
  fits-enough : (m n : ℕ) (s t : SortId) → s.0 ≤ m → s.0 ≤ n → fits_within sig.parents m s t ≡ fits_within sig.parents n s t
  fits-enough zero zero s t h k = refl
  fits-enough zero (suc n) s t h k = rw (first_alone s (parent sig s) h refl) (sym (or_false (same_sort s t)))
  fits-enough (suc m) zero s t h k = rw (first_alone s (parent sig s) k refl) (or_false (same_sort s t))
  fits-enough (suc m) (suc n) s t h k = ap (λ b. same_sort s t || b) (at_parent-same (parent sig s) (λ p. fits_within sig.parents m p t) (λ p. fits_within sig.parents n p t) false
      (λ p e. let l = parent-lower s p e in fits-enough m n p t (omega arith) (omega arith)))

  root-enough : (m n : ℕ) (s : SortId) → s.0 ≤ m → s.0 ≤ n → root_within sig.parents m s ≡ root_within sig.parents n s
  root-enough zero zero s h k = refl
  root-enough zero (suc n) s h k = rw (first_alone s (parent sig s) h refl) refl
  root-enough (suc m) zero s h k = rw (first_alone s (parent sig s) k refl) refl
  root-enough (suc m) (suc n) s h k = at_parent-same (parent sig s) (root_within sig.parents m) (root_within sig.parents n) s
      (λ p e. let l = parent-lower s p e in root-enough m n p (omega arith) (omega arith))

  -- s fits t exactly where s is t or the parent of s fits t
  pub fits-step : (s t : SortId) → fits sig s t ≡ (same_sort s t || at_parent (parent sig s) (λ p. fits sig p t) false)
  unfolding fits fits_in
  fits-step s t = fits-enough s.0 (suc s.0) s t (omega arith) (omega arith) ∙ ap (λ b. same_sort s t || b) (at_parent-same (parent sig s) (λ p. fits_within sig.parents s.0 p t) (λ p. fits_within sig.parents p.0 p t) false
      (λ p e. let l = parent-lower s p e in fits-enough s.0 p.0 p t (omega arith) (omega arith)))

  -- the root of a sort is that of its parent, and a sort without a parent is its own
  pub root-step : (s : SortId) → root sig s ≡ at_parent (parent sig s) (root sig) s
  unfolding root root_in
  root-step s = root-enough s.0 (suc s.0) s (omega arith) (omega arith) ∙ at_parent-same (parent sig s) (root_within sig.parents s.0) (λ p. root_within sig.parents p.0 p) s
      (λ p e. let l = parent-lower s p e in root-enough s.0 p.0 p (omega arith) (omega arith))

  -- the two ways in which a sort fits another
  pub data Way (s t : SortId) : Type 0 where
    here : s ≡ t → Way s t
    above : (p : SortId) → parent sig s ≡ Some p → fits sig p t ≡ true → Way s t

  pub fits-way : (s t : SortId) → fits sig s t ≡ true → Way s t
  fits-way s t e = by_test (same_sort s t) (parent sig s) refl refl (sym (fits-step s t) ∙ e)
    where
      by_test : (b : Bool) (o : Option SortId) → same_sort s t ≡ b → parent sig s ≡ o → (b || at_parent o (λ p. fits sig p t) false) ≡ true → Way s t
      by_test true o same is e = here (same_sort-is s t same)
      by_test false None same is e = absurd (true≢false (sym e))
      by_test false (Some p) same is e = above p is e

  pub fits-same : (s : SortId) → fits sig s s ≡ true
  fits-same s = fits-step s s ∙ ap (λ b. b || at_parent (parent sig s) (λ p. fits sig p s) false) (same_sort-same s)

  pub fits-above : (s t p : SortId) → parent sig s ≡ Some p → fits sig p t ≡ true → fits sig s t ≡ true
  fits-above s t p is e = fits-step s t ∙ rw is (rw e (or_true (same_sort s t)))
    where
      or_true : (b : Bool) → (b || true) ≡ true
      or_true true = refl
      or_true false = refl

  trans-to : (n : ℕ) (s t u : SortId) → s.0 < n → fits sig s t ≡ true → fits sig t u ≡ true → fits sig s u ≡ true
  trans-to zero s t u h e f = absurd (omega arith)
  trans-to (suc n) s t u h e f = elim (fits-way s t e) [
    | here is ↦ subst (λ (x : SortId). fits sig x u ≡ true) (sym is) f
    | above p is g ↦ let l = parent-lower s p is in fits-above s u p is (trans-to n p t u (omega arith) g f)
  ]

  pub fits-trans : (s t u : SortId) → fits sig s t ≡ true → fits sig t u ≡ true → fits sig s u ≡ true
  fits-trans s t u = trans-to (suc s.0) s t u (omega arith)

  lower-to : (n : ℕ) (s t : SortId) → s.0 < n → fits sig s t ≡ true → t.0 ≤ s.0
  lower-to zero s t h e = absurd (omega arith)
  lower-to (suc n) s t h e = elim (fits-way s t e) [
    | here is ↦ let n : s.0 ≡ t.0 = ap (λ (x : SortId). x.0) is in omega arith
    | above p is g ↦ let l = parent-lower s p is in let k = lower-to n p t (omega arith) g in omega arith
  ]

  pub fits-lower : (s t : SortId) → fits sig s t ≡ true → t.0 ≤ s.0
  fits-lower s t = lower-to (suc s.0) s t (omega arith)

  pub fits-antisym : (s t : SortId) → fits sig s t ≡ true → fits sig t s ≡ true → s ≡ t
  fits-antisym s t e f =
      let a = fits-lower s t e in
      let b = fits-lower t s f in
      let n : s.0 ≡ t.0 = omega arith in
      ap (λ (i : ℕ). let r : SortId = record { 0 = i } in r) n

  comparable-to : (n : ℕ) (s t u : SortId) → s.0 < n → fits sig s t ≡ true → fits sig s u ≡ true → (fits sig t u ≡ true) ⊎ (fits sig u t ≡ true)
  comparable-to zero s t u h e f = absurd (omega arith)
  comparable-to (suc n) s t u h e f = elim (fits-way s t e) [
    | here is ↦ inl (subst (λ (x : SortId). fits sig x u ≡ true) is f)
    | above p is g ↦ elim (fits-way s u f) [
      | here same ↦ inr (subst (λ (x : SortId). fits sig x t ≡ true) same e)
      | above q at k ↦
          let l = parent-lower s p is in
          let one : q ≡ p = cc in
          comparable-to n p t u (omega arith) g (subst (λ (x : SortId). fits sig x u ≡ true) one k)
    ]
  ]

  pub fits-comparable : (s t u : SortId) → fits sig s t ≡ true → fits sig s u ≡ true → (fits sig t u ≡ true) ⊎ (fits sig u t ≡ true)
  fits-comparable s t u = comparable-to (suc s.0) s t u (omega arith)

  root-above : (s p : SortId) → parent sig s ≡ Some p → root sig s ≡ root sig p
  root-above s p is = root-step s ∙ ap (λ o. at_parent o (root sig) s) is

  root-to : (n : ℕ) (s t : SortId) → s.0 < n → fits sig s t ≡ true → root sig s ≡ root sig t
  root-to zero s t h e = absurd (omega arith)
  root-to (suc n) s t h e = elim (fits-way s t e) [
    | here is ↦ ap (root sig) is
    | above p is g ↦ let l = parent-lower s p is in root-above s p is ∙ root-to n p t (omega arith) g
  ]

  pub akin-is : (s t : SortId) → akin sig s t ≡ true → root sig s ≡ root sig t
  unfolding akin akin_in root
  akin-is s t e = same_sort-is (root sig s) (root sig t) e

  pub akin-of : (s t : SortId) → root sig s ≡ root sig t → akin sig s t ≡ true
  unfolding akin akin_in root
  akin-of s t e = ap (λ (x : SortId). same_sort (root sig s) x) (sym e) ∙ same_sort-same (root sig s)

  pub fits-akin : (s t : SortId) → fits sig s t ≡ true → akin sig s t ≡ true
  fits-akin s t e = akin-of s t (root-to (suc s.0) s t (omega arith) e)

  pub akin-same : (s : SortId) → akin sig s s ≡ true
  akin-same s = akin-of s s refl

  pub akin-sym : (s t : SortId) → akin sig s t ≡ true → akin sig t s ≡ true
  akin-sym s t e = akin-of t s (sym (akin-is s t e))

  pub akin-trans : (s t u : SortId) → akin sig s t ≡ true → akin sig t u ≡ true → akin sig s u ≡ true
  akin-trans s t u e f = akin-of s u (akin-is s t e ∙ akin-is t u f)

  -- a sort fits its root
  fits-root : (n : ℕ) (s : SortId) → s.0 < n → fits sig s (root sig s) ≡ true
  fits-root zero s h = absurd (omega arith)
  fits-root (suc n) s h = by (parent sig s) refl (λ p l. fits-root n p l)
    where
      by : (o : Option SortId) → parent sig s ≡ o → ((p : SortId) → p.0 < n → fits sig p (root sig p) ≡ true) → fits sig s (root sig s) ≡ true
      by None is k = ap (fits sig s) (root-step s ∙ ap (λ o. at_parent o (root sig) s) is) ∙ fits-same s
      by (Some p) is k = let l = parent-lower s p is in ap (fits sig s) (root-above s p is) ∙ fits-above s (root sig p) p is (k p (omega arith))

  -- some sort stands above both
  pub akin-joined : (s t : SortId) → akin sig s t ≡ true → (u : SortId) × (fits sig s u ≡ true) × (fits sig t u ≡ true)
  akin-joined s t e = (root sig s, fits-root (suc s.0) s (omega arith), ap (fits sig t) (akin-is s t e) ∙ fits-root (suc t.0) t (omega arith))

  pub akin-joins : (s t u : SortId) → fits sig s u ≡ true → fits sig t u ≡ true → akin sig s t ≡ true
  akin-joins s t u e f = akin-of s t (root-to (suc s.0) s u (omega arith) e ∙ sym (root-to (suc t.0) t u (omega arith) f))

  pub akin-rooted : (s t : SortId) → akin sig s t ≡ same_sort (root sig s) (root sig t)
  unfolding akin akin_in root
  akin-rooted s t = refl
