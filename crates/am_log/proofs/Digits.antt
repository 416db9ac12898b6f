-- What the reading of a number gives, by the digits that spell it.
use Rattle.std.proofs.Common.{◌≡◌, ℕ, ◌<◌, ◌^◌, true, List, [], ◌∷◌, Result, Ok, Err, refl, arith, rules, inl, inr}
use Rattle.std.specs.List.{list_all}
use Rattle.std.specs.Char.{is_ascii_digit}
use Rattle.std.specs.Fmt.{decimal}
use Rattle.std.specs.Str.Parse.{ParsesUnsigned}
use Rattle.std.proofs.lemmas.Bool.{cases_lt, le-ltb, lt-ltb}
use Rattle.std.proofs.lemmas.Fmt.{digits_decimal, digits_value-decimal}
use Rattle.std.proofs.lemmas.Str.Parse.{IsNumeralModel, numerals_by_fold, parse_digits}
use Rattle.am_text.specs.Atoms.{read_on}
use Rattle.am_log.specs.Guess.{number_in_word}

pub own : IsNumeralModel (λ ds. list_all is_ascii_digit ds ≡ true) (read_on 0)
own = numerals_by_fold _ (search rules) read_on (search rules)

-- what was read, or 0
abbrev pub natural_or_zero : {E : Type 0} → Result ℕ E → ℕ
natural_or_zero (Ok n) = n
natural_or_zero (Err e) = 0

pub number_read : (E : Type 0) (word : List ℕ) (r : Result ℕ E) → ParsesUnsigned 32 10 word r → list_all is_ascii_digit word ≡ true → natural_or_zero r ≡ number_in_word word
unfolding number_in_word
number_read E word (Ok n) p h = let k = parse_digits own {E = E} 32 word (Ok n) p h in rw (h, lt-ltb (read_on 0 word) (2 ^ 32) k.0.1, k.1) refl
number_read E [] (Err e) p h = refl
number_read E (b ∷ bs) (Err e) p h = let k = parse_digits own {E = E} 32 (b ∷ bs) (Err e) p h in elim (cases_lt (read_on 0 (b ∷ bs)) (2 ^ 32)) [
  | inl lt ↦ absurd (k (omega arith, lt))
  | inr le ↦ rw (h, le-ltb (read_on 0 (b ∷ bs)) (2 ^ 32) le) refl
]

pub number_again : (n : ℕ) → n < 2 ^ 32 → number_in_word (decimal n) ≡ n
unfolding number_in_word
number_again n h =
    let v : read_on 0 (decimal n) ≡ n = digits_value-decimal own n (omega arith) in
    let d : list_all is_ascii_digit (decimal n) ≡ true = digits_decimal own n (omega arith) in
    rw (d, v, lt-ltb n (2 ^ 32) h) refl
