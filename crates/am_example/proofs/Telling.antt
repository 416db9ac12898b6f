-- Whole numbers and the natural numbers that tell them.
use Rattle.std.proofs.Common.{◌≡◌, ◌==◌, ◌+◌, ◌*◌, ◌/◌, ◌%◌, ℕ, Bool, true, false, refl, arith, if◌then◌else◌}
use Rattle.std.proofs.lemmas.Bool.Decides.{nat_tests}
use Rattle.std.specs.Prelude.{ℤ, pos, negsuc}
use Rattle.am_example.specs.Whole.{zigzag, unzigzag}
use Rattle.am_example.specs.Laws.{IsTelling}

even : (n : ℕ) → n * 2 % 2 ≡ 0
even n = omega arith

half : (n : ℕ) → n * 2 / 2 ≡ n
half n = omega arith

odd : (n : ℕ) → (n * 2 + 1) % 2 ≡ 1
odd n = omega arith

less_half : (n : ℕ) → (n * 2 + 1) / 2 ≡ n
less_half n = omega arith

pub told : (z : ℤ) → unzigzag (zigzag z) ≡ z
unfolding zigzag unzigzag
told (pos n) = rw (even n, half n) refl
told (negsuc n) = rw (odd n, less_half n) refl

twice : (n : ℕ) → (n % 2 == 0) ≡ true → n / 2 * 2 ≡ n
twice n e = grind (arith, nat_tests)

more_than_twice : (n : ℕ) → (n % 2 == 0) ≡ false → n / 2 * 2 + 1 ≡ n
more_than_twice n e = grind (arith, nat_tests)

tells : (n : ℕ) → zigzag (unzigzag n) ≡ n
unfolding zigzag unzigzag
tells n = by_test (n % 2 == 0) refl
  where
    by_test : (b : Bool) → (n % 2 == 0) ≡ b → zigzag (if b then pos (n / 2) else negsuc (n / 2)) ≡ n
    by_test true e = twice n e
    by_test false e = more_than_twice n e

pub telling : IsTelling
telling = record { told = told; tells = tells }
