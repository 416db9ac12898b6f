-- Tests of literals and their parts.
use Rattle.std.proofs.Common.{◌≡◌, ◌≢◌, ◌+◌, ◌<◌, ◌≤◌, set, ℕ, zero, suc, refl, ap, arith, List, [], ◌∷◌, length}
use Rattle.std.specs.List.{remove}
use Rattle.std.proofs.lemmas.Grind.{common_steps}
use Rattle.std.proofs.lemmas.Bool.Decides.{nat_tests}
use Rattle.am_term.specs.declared.term.Term.{Term}
use Rattle.am_term.specs.declared.term.Atom.TheVariants.{Eq}
use Rattle.am_term.specs.Place.{with_member}
use Rattle.am_term.proofs.Members.{member-zero, member-past, member-get, with_member-set}
use Rattle.am_term.specs.Parts.{without, with_side}

pub remove-past : {A : Type 0} (xs : List A) (i : ℕ) → length xs ≤ i → remove xs i ≡ xs
remove-past [] zero h = refl
remove-past [] (suc i) h = refl
remove-past (x ∷ xs) zero h = absurd (omega arith)
remove-past (x ∷ xs) (suc i) h = ap (λ ys. x ∷ ys) (remove-past xs i (omega arith))

pub without-zero : {A : Type 0} (xs : List A) (k : ℕ) → k ≡ 0 → without xs k ≡ xs
without-zero xs zero e = refl
without-zero xs (suc k) e = absurd (omega arith)

pub without-past : {A : Type 0} (xs : List A) (k : ℕ) → length xs < k → without xs k ≡ xs
without-past xs zero h = refl
without-past xs (suc k) h = remove-past xs k (omega arith)

pub without-at : {A : Type 0} (xs : List A) (k i : ℕ) → k ≡ i + 1 → without xs k ≡ remove xs i
without-at xs zero i e = absurd (omega arith)
without-at xs (suc k) i e = let s : k ≡ i = omega arith in ap (remove xs) s

set-past : {A : Type 0} (xs : List A) (i : ℕ) (x : A) → length xs ≤ i → set xs i x ≡ xs
set-past [] i x h = refl
set-past (y ∷ ys) zero x h = absurd (omega arith)
set-past (y ∷ ys) (suc i) x h = ap (λ zs. y ∷ zs) (set-past ys i x (omega arith))

pub with-zero : {A : Type 0} (xs : List A) (k : ℕ) (x : A) → k ≡ 0 → with_member xs k x ≡ xs
with-zero xs zero x e = refl
with-zero xs (suc k) x e = absurd (omega arith)

pub with-past : {A : Type 0} (xs : List A) (k : ℕ) (x : A) → length xs < k → with_member xs k x ≡ xs
with-past xs zero x h = refl
with-past xs (suc k) x h = set-past xs k x (omega arith)

pub side-zero : (l r : Term) (k : ℕ) (x : Term) → k ≡ 0 → with_side l r k x ≡ Eq l r
side-zero l r zero x e = refl
side-zero l r (suc k) x e = absurd (omega arith)

pub side-one : (l r : Term) (k : ℕ) (x : Term) → k ≡ 1 → with_side l r k x ≡ Eq x r
side-one l r zero x e = absurd (omega arith)
side-one l r (suc zero) x e = refl
side-one l r (suc (suc k)) x e = absurd (omega arith)

pub side-two : (l r : Term) (k : ℕ) (x : Term) → k ≢ 0 → k ≢ 1 → with_side l r k x ≡ Eq l x
side-two l r zero x e f = absurd (e refl)
side-two l r (suc zero) x e f = absurd (f refl)
side-two l r (suc (suc k)) x e f = refl

pub ruleset replacing = (common_steps, nat_tests, with_member-set, with-zero, with-past, side-zero, side-one, side-two)

pub ruleset ruling = (common_steps, nat_tests, member-zero, member-get, without-zero, without-past, without-at)

pub ruleset concluding = (common_steps, nat_tests, member-zero, member-past, member-get, with_member-set, with-zero, with-past)

pub ruleset faulting = (common_steps, nat_tests)

pub ruleset stepping = (common_steps, nat_tests, member-zero, member-get)
