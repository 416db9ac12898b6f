-- Numbers of calls that are past.
use Rattle.std.proofs.Common.{◌≡◌, ◌==◌, ℕ, List, [], ◌∷◌, Vec, ◌+◌, ◌-◌, ◌^◌, ◌≤◌, min, arith, true, false, IsSome, refl}
use Rattle.std.specs.List.{list_any}
use Rattle.std.specs.declared.alloc.Global.{Global}
use Rattle.std.proofs.lemmas.Bool.Decides.{nat_tests}
use Rattle.am_outside.specs.Calls.{all_past}
use Rattle.am_outside.specs.Files.{file_of, fails_at}

-- what is past stays past
pub all_past_later : (a b : ℕ) (listed : List ℕ) → a ≤ b → all_past a listed ≡ true → all_past b listed ≡ true
all_past_later a b [] le past = refl
all_past_later a b (n ∷ ns) le past = grind (arith, nat_tests, all_past_later a b ns le)

-- the next call isn't listed
next_not_listed : (a : ℕ) (listed : List ℕ) → all_past a listed ≡ true → list_any (λ number. number == min (a + 1) (2 ^ 64 - 1)) listed ≡ false
next_not_listed a [] past = refl
next_not_listed a (n ∷ ns) past = grind (arith, nat_tests, next_not_listed a ns)

-- a fetch of a name that is sure doesn't fail
pub sure_succeeds : (files : List (List ℕ × Vec ℕ Global)) (a : ℕ) (listed name : List ℕ) → IsSome (file_of files name) → all_past a listed ≡ true
    → fails_at files listed (min (a + 1) (2 ^ 64 - 1)) name ≡ false
sure_succeeds files a listed name there past = rw (next_not_listed a listed past) (grind arith)
