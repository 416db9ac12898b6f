-- Numbers that stand still at the end of 64 bits, and counts over lists.
use Rattle.std.proofs.Common.{◌≡◌, ◌∙◌, ◌+◌, ◌*◌, ◌-◌, ◌^◌, ◌≤◌, ◌<◌, ℕ, zero, suc, refl, ap, arith, List, [], length, map, sum, min, take, get_or, inl, inr}
use Rattle.std.proofs.Common.{lit<, ◌⊎◌}
use Rattle.std.proofs.Math.Nat.{mul-suc, mul-zero, zero-mul, mul_comm}
use Rattle.std.proofs.lemmas.Grind.{common_steps}
use Rattle.std.proofs.lemmas.List.{map_more}
use Rattle.std.proofs.lemmas.List.Sums.{fold_push}
use Rattle.std.proofs.lemmas.Bool.{cases_lt}
use Rattle.am_term.specs.declared.term.Formula.{Formula}
use Rattle.am_term.specs.declared.term.Formula.TheViews.{the_lemmas}
use Rattle.am_clause.specs.Count.{count, count_negated, multiplied, count_laws}
use Rattle.am_clause.specs.Forms.{capped}

min_plus : (a b m : ℕ) → min (min a m + min b m) m ≡ min (a + b) m
min_plus a b m = omega arith

-- a product with a factor past the end and another that isn't 0 is past the end
large : (a b m : ℕ) → m ≤ a → 0 < b → m ≤ a * b
large a zero m h l = absurd (omega arith)
large a (suc b) m h l = rw mul-suc (omega arith)

-- a factor that isn't 0 stays so
min_times : (a b m : ℕ) → 0 < m → min (min a m * min b m) m ≡ min (a * b) m
min_times a b m p = by_cases (cases_lt a m) (cases_lt b m)
  where
    both : a < m → b < m → min (min a m * min b m) m ≡ min (a * b) m
    both h k = let x : min a m ≡ a = omega arith in let y : min b m ≡ b = omega arith in rw (x, y)

    by_zero : (n : ℕ) → (n ≡ 0) ⊎ (0 < n)
    by_zero zero = inl refl
    by_zero (suc n) = inr (omega arith)

    first : m ≤ a → (b ≡ 0) ⊎ (0 < b) → min (min a m * min b m) m ≡ min (a * b) m
    first h (inl e) = let x : min b m ≡ 0 = omega arith in rw (x, e, mul-zero (min a m), mul-zero a)
    first h (inr l) =
        let x : min a m ≡ m = omega arith in
        let y : m ≤ a * b = large a b m h l in
        let z : m ≤ m * min b m = large m (min b m) m (omega arith) (omega arith) in
        rw x (omega arith)

    second : m ≤ b → (a ≡ 0) ⊎ (0 < a) → min (min a m * min b m) m ≡ min (a * b) m
    second h (inl e) = let x : min a m ≡ 0 = omega arith in rw (x, e, zero-mul (min b m), zero-mul b)
    second h (inr l) =
        let x : min b m ≡ m = omega arith in
        let y : m ≤ b * a = large b a m h l in
        let z : m ≤ m * min a m = large m (min a m) m (omega arith) (omega arith) in
        rw (x, mul_comm a b, mul_comm (min a m) m) (omega arith)

    by_cases : (a < m) ⊎ (m ≤ a) → (b < m) ⊎ (m ≤ b) → min (min a m * min b m) m ≡ min (a * b) m
    by_cases (inl h) (inl k) = both h k
    by_cases (inl h) (inr k) = second k (by_zero a)
    by_cases (inr h) k = first h (by_zero b)

pub capped-plus : (a b : ℕ) → capped (capped a + capped b) ≡ capped (a + b)
unfolding capped
capped-plus a b = min_plus a b (2 ^ 64 - 1)

pub capped-times : (a b : ℕ) → capped (capped a * capped b) ≡ capped (a * b)
unfolding capped
capped-times a b = min_times a b (2 ^ 64 - 1) (lit< tt)

pub capped-zero : capped 0 ≡ 0
unfolding capped
capped-zero = refl

pub capped-one : capped 1 ≡ 1
unfolding capped
capped-one = refl

pub sums-more : (f : Formula → ℕ) (fs : List Formula) (i : ℕ) (d : Formula) → i < length fs → sum (map f (take (i + 1) fs)) ≡ sum (map f (take i fs)) + f (get_or fs i d)
sums-more f fs i d h = ap sum (map_more f fs i d h) ∙ fold_push (λ a x. a + x) 0 (map f (take i fs)) (f (get_or fs i d))

pub multiples-more : (f : Formula → ℕ) (fs : List Formula) (i : ℕ) (d : Formula) → i < length fs → multiplied (map f (take (i + 1) fs)) ≡ multiplied (map f (take i fs)) * f (get_or fs i d)
unfolding multiplied
multiples-more f fs i d h = ap multiplied (map_more f fs i d h) ∙ fold_push (λ a x. a * x) 1 (map f (take i fs)) (f (get_or fs i d))

pub multiplied-none : multiplied [] ≡ 1
unfolding multiplied
multiplied-none = refl

pub ruleset counting = (common_steps, the_lemmas, count_laws, capped-plus, capped-times, capped-zero, capped-one, sums-more, multiples-more, multiplied-none)
