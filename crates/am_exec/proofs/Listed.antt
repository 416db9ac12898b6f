-- What is found in a list, and names that differ.
use Rattle.std.proofs.Common.{◌≡◌, ◌∙◌, ◌++◌, ◌||◌, ◌<◌, ℕ, zero, suc, true, false, Bool, not, refl, sym, ap, subst, arith, List, [], ◌∷◌, Some, map, length, drop, cond, find, slice_index_or, true≢false, Contains}
use Rattle.std.specs.List.{list_any, AllByRecursion}
use Rattle.std.specs.Str.{bytes_eq}
use Rattle.am_term.specs.NameLists.{is_among, are_distinct}
use Rattle.am_term.proofs.Tests.{and_left, and_right, and_both, true_not, not_false}
use Rattle.am_exec.proofs.Names.{is_among-append}
use Rattle.am_exec.proofs.Held.{eq_is, eq_same, or_false-left, or_false-right, or_both}

pub contains-here : {A : Type 0} (x : A) (xs : List A) → Contains (x ∷ xs) x
contains-here x xs = (0, omega arith, refl)

pub contains-later : {A : Type 0} (x y : A) (xs : List A) → Contains xs x → Contains (y ∷ xs) x
contains-later x y xs c = (suc c.0, omega (arith, c.1), c.2)

pub contains-behind : {A : Type 0} (n : ℕ) (xs : List A) (x : A) → Contains (drop n xs) x → Contains xs x
contains-behind zero xs x c = c
contains-behind (suc n) [] x c = c
contains-behind (suc n) (y ∷ xs) x c = contains-later x y xs (contains-behind n xs x c)

-- what holds of all holds of each
pub all-at : {A : Type 0} (P : A → Type 0) (xs : List A) (x : A) → AllByRecursion P xs → Contains xs x → P x
all-at {A = A} P [] x h c = absurd (omega (arith, c.1))
all-at {A = A} P (y ∷ ys) x h c = here c.0 c.1 c.2
  where
    at : (zs : List A) (k : ℕ) → AllByRecursion P zs → k < length zs → slice_index_or zs k x ≡ x → P x
    at [] k g l e = absurd (omega arith)
    at (z ∷ zs) zero g l e = subst P e g.0
    at (z ∷ zs) (suc k) g l e = at zs k g.1 (omega arith) e

    here : (k : ℕ) → k < length (y ∷ ys) → slice_index_or (y ∷ ys) k x ≡ x → P x
    here k l e = at (y ∷ ys) k h l e

-- what is found is there and passes
pub find-there : {A : Type 0} (p : A → Bool) (xs : List A) (x : A) → find p xs ≡ Some x → Contains xs x × (p x ≡ true)
find-there {A = A} p [] x e = absurd cc
find-there {A = A} p (y ∷ ys) x e = by_test (find-there p ys x) (p y) refl e
  where
    by_test : (find p ys ≡ Some x → Contains ys x × (p x ≡ true)) → (b : Bool) → p y ≡ b → cond b (Some y) (find p ys) ≡ Some x → Contains (y ∷ ys) x × (p x ≡ true)
    by_test rest true is e =
        let same : y ≡ x = cc in
        (subst (λ (z : A). Contains (y ∷ ys) z) same (contains-here y ys), subst (λ (z : A). p z ≡ true) same is)
    by_test rest false is e = let r = rest e in (contains-later x y ys r.0, r.1)

-- a name among those of a list is one member's
pub among-names : {A : Type 0} (f : A → List ℕ) (n : List ℕ) (xs : List A) → is_among n (map f xs) ≡ true → (x : A) × Contains xs x × (f x ≡ n)
among-names {A = A} f n [] e = absurd (true≢false (sym e))
among-names {A = A} f n (y ∷ ys) e = by_test (among-names f n ys) (bytes_eq n (f y)) refl e
  where
    by_test : (is_among n (map f ys) ≡ true → (x : A) × Contains ys x × (f x ≡ n)) → (b : Bool) → bytes_eq n (f y) ≡ b → (b || is_among n (map f ys)) ≡ true → (x : A) × Contains (y ∷ ys) x × (f x ≡ n)
    by_test rest true is e = (y, contains-here y ys, sym (eq_is n (f y) is))
    by_test rest false is e = let r = rest e in (r.0, contains-later r.0 y ys r.1, r.2)

pub among-contained : {A : Type 0} (f : A → List ℕ) (x : A) (xs : List A) → Contains xs x → is_among (f x) (map f xs) ≡ true
among-contained {A = A} f x xs c = at xs c.0 c.1 c.2
  where
    at : (zs : List A) (k : ℕ) → k < length zs → slice_index_or zs k x ≡ x → is_among (f x) (map f zs) ≡ true
    at [] k l e = absurd (omega arith)
    at (z ∷ zs) zero l e = ap (λ b. b || is_among (f x) (map f zs)) (subst (λ (y : A). bytes_eq (f x) (f y) ≡ true) (sym e) (eq_same (f x)))
    at (z ∷ zs) (suc k) l e = subst (λ (b : Bool). (bytes_eq (f x) (f z) || b) ≡ true) (sym (at zs k (omega arith) e)) (either (bytes_eq (f x) (f z)))
      where
        either : (b : Bool) → (b || true) ≡ true
        either true = refl
        either false = refl

-- distinct names of two lists that have none in common
pub distinct-append : (ms ns : List (List ℕ)) → are_distinct ms ≡ true → are_distinct ns ≡ true → ((n : List ℕ) → is_among n ms ≡ true → is_among n ns ≡ false) → are_distinct (ms ++ ns) ≡ true
distinct-append [] ns d e h = e
distinct-append (m ∷ ms) ns d e h =
    and_both (not (is_among m (ms ++ ns))) (are_distinct (ms ++ ns))
    (not_false (is_among m (ms ++ ns)) (is_among-append m ms ns ∙ or_both (is_among m ms) (is_among m ns) (true_not (is_among m ms) (and_left (not (is_among m ms)) (are_distinct ms) d)) (h m (ap (λ b. b || is_among m ms) (eq_same m)))))
    (distinct-append ms ns (and_right (not (is_among m ms)) (are_distinct ms) d) e (λ n i. h n (later (bytes_eq n m) (is_among n ms) i)))
  where
    later : (a b : Bool) → b ≡ true → (a || b) ≡ true
    later true b e = refl
    later false b e = e

-- a name among those that fail a test fails it
pub none-passes : (p : List ℕ → Bool) (n : List ℕ) (ns : List (List ℕ)) → list_any p ns ≡ false → is_among n ns ≡ true → p n ≡ false
none-passes p n [] e h = absurd (true≢false (sym h))
none-passes p n (m ∷ ns) e h = by_test (bytes_eq n m) refl (λ i. none-passes p n ns (or_false-right (p m) (list_any p ns) e) i) h
  where
    by_test : (b : Bool) → bytes_eq n m ≡ b → (is_among n ns ≡ true → p n ≡ false) → (b || is_among n ns) ≡ true → p n ≡ false
    by_test true is rest h = ap p (eq_is n m is) ∙ or_false-left (p m) (list_any p ns) e
    by_test false is rest h = rest h
