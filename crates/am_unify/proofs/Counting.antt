-- How many numbers below a bound pass a test.
use Rattle.std.proofs.Common.{◌≡◌, ◌<◌, ◌≤◌, inl, inr, ℕ, zero, suc, Bool, true, false, true≢false, refl, sym, ap, subst, arith, if◌then◌else◌}
use Rattle.std.proofs.lemmas.Bool.{cases_lt}
use Rattle.am_term.proofs.Tests.{bool_cases}
use Rattle.am_unify.specs.Occurrence.{count_below}

abbrev pub one_if : Bool → ℕ
one_if b = if b then 1 else 0

one_if-le : (a b : Bool) → (a ≡ true → b ≡ true) → one_if a ≤ one_if b
one_if-le true true h = omega arith
one_if-le true false h = absurd (true≢false (sym (h refl)))
one_if-le false true h = omega arith
one_if-le false false h = omega arith

count-grows : (f : ℕ → Bool) (a b : ℕ) → a ≤ b → count_below a f ≤ count_below b f
count-grows f a zero h = let e : a ≡ 0 = omega arith in subst (λ n. count_below n f ≤ 0) (sym e) (omega arith)
count-grows f a (suc b) h = elim (cases_lt b a) [
  | inl l ↦ let e : a ≡ suc b = omega arith in subst (λ n. count_below a f ≤ count_below n f) e (omega arith)
  | inr l ↦ let k = count-grows f a b l in omega arith
]

-- numbers that pass stand below K, so that a higher bound counts no more
pub count-within : (f : ℕ → Bool) (K : ℕ) → ((k : ℕ) → f k ≡ true → k < K) → (N : ℕ) → count_below N f ≤ count_below K f
count-within f K h zero = omega arith
count-within f K h (suc n) = elim (bool_cases (f n)) [
  | inl e ↦ let l = h n e in count-grows f (suc n) K (omega arith)
  | inr e ↦ let z : one_if (f n) ≡ 0 = ap one_if e in let k = count-within f K h n in omega arith
]

module _ (f g : ℕ → Bool) (le : (k : ℕ) → f k ≡ true → g k ≡ true) where
  pub count-le : (N : ℕ) → count_below N f ≤ count_below N g
  count-le zero = omega arith
  count-le (suc n) = let a = one_if-le (f n) (g n) (le n) in let b = count-le n in omega arith

  pub count-less : (N x : ℕ) → x < N → f x ≡ false → g x ≡ true → count_below N f < count_below N g
  count-less zero x l e d = absurd (omega arith)
  count-less (suc n) x l e d = elim (cases_lt x n) [
    | inl k ↦ let a = one_if-le (f n) (g n) (le n) in let b = count-less n x k e d in omega arith
    | inr k ↦
        let is : x ≡ n = omega arith in
        let a : one_if (f n) ≡ 0 = ap one_if (subst (λ y. f y ≡ false) is e) in
        let b : one_if (g n) ≡ 1 = ap one_if (subst (λ y. g y ≡ true) is d) in
        let c = count-le n in omega arith
  ]
