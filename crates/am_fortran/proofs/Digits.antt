-- What the reading of a number gives, by the digits that spell it.
use Rattle.std.proofs.Common.{◌≡◌, ℕ, ◌^◌, Bool, true, false, List, [], ◌∷◌, Result, Ok, Err, refl, arith, rules, inl, inr}
use Rattle.std.specs.Prelude.{ℤ, pos, ◌==◌, if◌then◌else◌}
use Rattle.std.specs.Int.{w64}
use Rattle.std.specs.List.{list_all}
use Rattle.std.specs.Char.{is_ascii_digit}
use Rattle.std.specs.Str.Parse.{ParsesSigned, ParsesUnsigned}
use Rattle.std.proofs.lemmas.Str.Parse.{IsNumeralModel, numerals_by_fold, parse_digits, parse_signed_minus, parse_signed_digits}
use Rattle.std.proofs.lemmas.Bool.{cases_lt, le-ltb, lt-ltb, le-leb, lt-leb, eqb-true}
use Rattle.am_fortran.specs.Guess.{add_digits, small_number, integer_of, is_signed_digits}

pub own : IsNumeralModel (λ ds. list_all is_ascii_digit ds ≡ true) (add_digits 0)
own = numerals_by_fold _ (search rules) add_digits (search rules)

-- what was read, or 0
abbrev pub natural_or_zero : {E : Type 0} → Result ℕ E → ℕ
natural_or_zero (Ok n) = n
natural_or_zero (Err e) = 0

abbrev pub whole_or_zero : {E : Type 0} → Result ℤ E → ℤ
whole_or_zero (Ok n) = n
whole_or_zero (Err e) = pos 0

pub number_read : (E : Type 0) (word : List ℕ) (r : Result ℕ E) → ParsesUnsigned 32 10 word r → list_all is_ascii_digit word ≡ true → natural_or_zero r ≡ small_number word
unfolding small_number
number_read E word (Ok n) p h = let k = parse_digits own {E = E} 32 word (Ok n) p h in rw (h, lt-ltb (add_digits 0 word) (2 ^ 32) k.0.1, k.1) refl
number_read E [] (Err e) p h = refl
number_read E (b ∷ bs) (Err e) p h = let k = parse_digits own {E = E} 32 (b ∷ bs) (Err e) p h in elim (cases_lt (add_digits 0 (b ∷ bs)) (2 ^ 32)) [
  | inl lt ↦ absurd (k (omega arith, lt))
  | inr le ↦ rw (h, le-ltb (add_digits 0 (b ∷ bs)) (2 ^ 32) le) refl
]

with_minus : (E : Type 0) (b : ℕ) (bs : List ℕ) (r : Result ℤ E) → ParsesSigned w64 10 (b ∷ bs) r → b ≡ 45 → list_all is_ascii_digit bs ≡ true → whole_or_zero r ≡ integer_of (b ∷ bs)
unfolding integer_of
with_minus E b bs (Ok n) p e h = let k = parse_signed_minus own {E = E} w64 (b ∷ bs) (Ok n) p e in rw (e, h, le-leb (add_digits 0 bs) (2 ^ 63) k.0.2, k.1) refl
with_minus E b [] (Err x) p e h = rw e refl
with_minus E b (d ∷ ds) (Err x) p e h = let k = parse_signed_minus own {E = E} w64 (b ∷ d ∷ ds) (Err x) p e in elim (cases_lt (2 ^ 63) (add_digits 0 (d ∷ ds))) [
  | inl lt ↦ rw (e, h, lt-leb (add_digits 0 (d ∷ ds)) (2 ^ 63) lt) refl
  | inr le ↦ absurd (k (h, omega arith, le))
]

plain : (E : Type 0) (b : ℕ) (bs : List ℕ) (r : Result ℤ E) → ParsesSigned w64 10 (b ∷ bs) r → (b == 45) ≡ false → list_all is_ascii_digit (b ∷ bs) ≡ true → whole_or_zero r ≡ integer_of (b ∷ bs)
unfolding integer_of
plain E b bs (Ok n) p e h = let k = parse_signed_digits own {E = E} w64 (b ∷ bs) (Ok n) p h in rw (e, h, lt-ltb (add_digits 0 (b ∷ bs)) (2 ^ 63) k.0.1, k.1) refl
plain E b bs (Err x) p e h = let k = parse_signed_digits own {E = E} w64 (b ∷ bs) (Err x) p h in elim (cases_lt (add_digits 0 (b ∷ bs)) (2 ^ 63)) [
  | inl lt ↦ absurd (k (omega arith, lt))
  | inr le ↦ rw (e, h, le-ltb (add_digits 0 (b ∷ bs)) (2 ^ 63) le) refl
]

by_sign : (E : Type 0) (b : ℕ) (bs : List ℕ) (r : Result ℤ E) (t : Bool) → (b == 45) ≡ t → ParsesSigned w64 10 (b ∷ bs) r → (if t then list_all is_ascii_digit bs else list_all is_ascii_digit (b ∷ bs)) ≡ true → whole_or_zero r ≡ integer_of (b ∷ bs)
by_sign E b bs r true e p h = with_minus E b bs r p (eqb-true b 45 e) h
by_sign E b bs r false e p h = plain E b bs r p e h

pub integer_read : (E : Type 0) (word : List ℕ) (r : Result ℤ E) → ParsesSigned w64 10 word r → is_signed_digits word ≡ true → whole_or_zero r ≡ integer_of word
unfolding integer_of
integer_read E [] (Ok n) p h = let k = parse_signed_digits own {E = E} w64 [] (Ok n) p refl in k.1
integer_read E [] (Err x) p h = refl
integer_read E (b ∷ bs) r p h = by_sign E b bs r (b == 45) refl p h
