-- Members of a list by their numbers, from 1.
use Rattle.std.proofs.Common.{◌≡◌, ◌≢◌, ◌+◌, ◌<◌, ℕ, zero, suc, refl, sym, ap, subst, List, [], ◌∷◌, Some, None, length, get_or, set, drop, arith, option_and_then, slice_get, add-one}
use Rattle.std.proofs.Math.Seq.{drop-cons}
use Rattle.std.proofs.lemmas.Option.{slice_get_past, slice_get-get_or}
use Rattle.am_term.specs.declared.term.Term.{Term}
use Rattle.am_term.specs.Place.{member, with_member, place, args_of}

pub member-zero : {A : Type 0} (xs : List A) (k : ℕ) → k ≡ 0 → member xs k ≡ None
member-zero xs zero e = refl
member-zero xs (suc k) e = absurd (omega arith)

pub member-past : {A : Type 0} (xs : List A) (k : ℕ) → length xs < k → member xs k ≡ None
member-past xs zero h = refl
member-past xs (suc k) h = slice_get_past xs k (omega arith)

pub member-within : {A : Type 0} (xs : List A) (k i : ℕ) (d : A) → k ≡ i + 1 → i < length xs → member xs k ≡ Some (get_or xs i d)
member-within xs zero i d e h = absurd (omega arith)
member-within xs (suc k) i d e h = let s : k ≡ i = omega arith in subst (λ j. slice_get xs j ≡ Some (get_or xs i d)) (sym s) (slice_get-get_or xs i d h)

pub member-get : {A : Type 0} (xs : List A) (k i : ℕ) → k ≡ i + 1 → member xs k ≡ slice_get xs i
member-get xs zero i e = absurd (omega arith)
member-get xs (suc k) i e = let s : k ≡ i = omega arith in ap (slice_get xs) s

pub with_member-set : {A : Type 0} (xs : List A) (k i : ℕ) (x : A) → k ≡ i + 1 → with_member xs k x ≡ set xs i x
with_member-set xs zero i x e = absurd (omega arith)
with_member-set xs (suc k) i x e = let s : k ≡ i = omega arith in ap (λ j. set xs j x) s

-- nothing is a member of the empty list
pub member-none : {A : Type 0} (k : ℕ) → let xs : List A = [] in member xs k ≡ None
member-none zero = refl
member-none (suc k) = refl

get-set : {A : Type 0} (xs : List A) (i : ℕ) (x y : A) → slice_get xs i ≡ Some x → slice_get (set xs i y) i ≡ Some y
get-set [] i x y e = absurd cc
get-set (z ∷ xs) zero x y e = refl
get-set (z ∷ xs) (suc i) x y e = get-set xs i x y e

get-set_other : {A : Type 0} (xs : List A) (i j : ℕ) (y : A) → i ≢ j → slice_get (set xs i y) j ≡ slice_get xs j
get-set_other [] i j y h = refl
get-set_other (z ∷ xs) zero zero y h = absurd (h refl)
get-set_other (z ∷ xs) zero (suc j) y h = refl
get-set_other (z ∷ xs) (suc i) zero y h = refl
get-set_other (z ∷ xs) (suc i) (suc j) y h = get-set_other xs i j y (λ e. h (ap suc e))

set-get : {A : Type 0} (xs : List A) (i : ℕ) (x : A) → slice_get xs i ≡ Some x → set xs i x ≡ xs
set-get [] i x e = absurd cc
set-get (z ∷ xs) zero x e = let s : x ≡ z = cc in ap (λ y. y ∷ xs) s
set-get (z ∷ xs) (suc i) x e = ap (λ ys. z ∷ ys) (set-get xs i x e)

-- a member that was put there
pub member-put : {A : Type 0} (xs : List A) (k : ℕ) (x y : A) → member xs k ≡ Some x → member (with_member xs k y) k ≡ Some y
member-put xs zero x y e = absurd cc
member-put xs (suc i) x y e = get-set xs i x y e

-- the others stay
pub member-other : {A : Type 0} (xs : List A) (k j : ℕ) (y : A) → k ≢ j → member (with_member xs k y) j ≡ member xs j
member-other xs zero j y h = refl
member-other xs (suc i) zero y h = refl
member-other xs (suc i) (suc j) y h = get-set_other xs i j y (λ e. h (ap suc e))

-- a member put in its own place
pub member-same : {A : Type 0} (xs : List A) (k : ℕ) (x : A) → member xs k ≡ Some x → with_member xs k x ≡ xs
member-same xs zero x e = refl
member-same xs (suc i) x e = set-get xs i x e

-- one step down
pub place-down : (path : List ℕ) (i d : ℕ) (t : Term) → i < length path → place (drop i path) t ≡ option_and_then (place (drop (i + 1) path)) (member (args_of t) (get_or path i d))
place-down path i d t h = rw (add-one, drop-cons path i d) refl
