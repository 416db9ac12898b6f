-- Where a name stands first once one more is at the end.
use Rattle.std.proofs.Common.{◌≡◌, ◌∙◌, ◌++◌, ℕ, suc, true, false, Bool, refl, sym, ap, List, [], ◌∷◌, Option, Some, None, length, cond, is_some, option_map, if◌then◌else◌}
use Rattle.std.specs.Str.{bytes_eq}
use Rattle.am_term.proofs.Tests.{never_both, fails}
use Rattle.am_exec.proofs.Held.{eq_is, eq_flip}
use Rattle.am_exec.specs.Places.{first_place, or_at}

-- counted from one name further
further : (o : Option ℕ) (b : Bool) (k : ℕ) → option_map suc (or_at o b k) ≡ or_at (option_map suc o) b (suc k)
further (Some j) b k = refl
further None true k = refl
further None false k = refl

pub place_push : (q n : List ℕ) (ms : List (List ℕ)) → first_place q (ms ++ n ∷ []) ≡ or_at (first_place q ms) (bytes_eq q n) (length ms)
place_push q n [] = by_test (bytes_eq q n)
  where
    by_test : (b : Bool) → (if b then Some 0 else None) ≡ or_at None b 0
    by_test true = refl
    by_test false = refl
place_push q n (m ∷ ms) = by_test (bytes_eq q m) (place_push q n ms)
  where
    by_test : (b : Bool) → first_place q (ms ++ n ∷ []) ≡ or_at (first_place q ms) (bytes_eq q n) (length ms) → (if b then Some 0 else option_map suc (first_place q (ms ++ n ∷ []))) ≡ or_at (if b then Some 0 else option_map suc (first_place q ms)) (bytes_eq q n) (suc (length ms))
    by_test true e = refl
    by_test false e = ap (option_map suc) e ∙ further (first_place q ms) (bytes_eq q n) (length ms)

-- where the name has a place already, nothing changes
pub place_kept : (g : List ℕ → Option ℕ) (n : List ℕ) (at : ℕ) → is_some (g n) ≡ true → (q : List ℕ) → g q ≡ or_at (g q) (bytes_eq q n) at
place_kept g n at e q = by_test (g q) (bytes_eq q n) refl refl
  where
    by_test : (o : Option ℕ) (b : Bool) → g q ≡ o → bytes_eq q n ≡ b → o ≡ or_at o b at
    by_test (Some k) b h i = refl
    by_test None false h i = refl
    by_test None true h i = never_both (is_some (g n)) e (ap is_some (ap g (sym (eq_is q n i)) ∙ h))

-- where it has none, it gets this one
pub place_new : (g f : List ℕ → Option ℕ) (n : List ℕ) (at : ℕ) → is_some (g n) ≡ false → ((q : List ℕ) → f q ≡ cond (bytes_eq n q) (Some at) (g q)) → (q : List ℕ) → f q ≡ or_at (g q) (bytes_eq q n) at
place_new g f n at e h q = h q ∙ by_test (g q) (bytes_eq n q) refl refl
  where
    by_test : (o : Option ℕ) (b : Bool) → g q ≡ o → bytes_eq n q ≡ b → cond b (Some at) o ≡ or_at o (bytes_eq q n) at
    by_test (Some k) true i j = never_both (is_some (g n)) (ap is_some (ap g (eq_is n q j) ∙ i)) e
    by_test (Some k) false i j = refl
    by_test None true i j = ap (λ (b : Bool). or_at None b at) (sym (eq_flip n q j))
    by_test None false i j = ap (λ (b : Bool). or_at None b at) (sym (fails (bytes_eq q n) (λ k. never_both (bytes_eq n q) (eq_flip q n k) j)))
