use Rattle.std.proofs.Common.{◌≡◌, ℕ, ◌<◌, ◌^◌, Bool, true, false, List, [], ◌∷◌, length, Result, Ok, Err, Option, Some, None, refl, sym, subst, arith, rules}
use Rattle.std.specs.Prelude.{ℤ, ◌==◌, if◌then◌else◌}
use Rattle.std.specs.Int.{w64}
use Rattle.std.specs.List.{list_all}
use Rattle.std.specs.Char.{is_ascii_digit}
use Rattle.std.specs.Str.Parse.{ParsesSigned}
use Rattle.std.proofs.lemmas.Str.Parse.{IsNumeralModel, numerals_by_fold, parse_signed_minus, parse_signed_digits}
use Rattle.std.proofs.lemmas.Bool.{cases_lt, le-ltb, lt-ltb, eqb-true}
use Rattle.std.proofs.lemmas.Grind.{common_steps}
use Rattle.std.proofs.lemmas.List.Folds.{list_all_more, list_all_at}
use Rattle.std.proofs.Common.{inl, inr}
use Rattle.am_text.specs.declared.form.FormNode.{FormNode}
use Rattle.am_text.specs.declared.form.FormNode.TheVariants.{Word, Number}
use Rattle.am_text.specs.Atoms.{has_digits, is_number, read_on, number_of, node_spelled}

pub own : IsNumeralModel (λ ds. list_all is_ascii_digit ds ≡ true) (read_on 0)
own = numerals_by_fold _ (search rules) read_on (search rules)

abbrev pub Parsed : {E : Type 0} → Result ℤ E → Option FormNode → Type 0
Parsed (Ok n) a = a ≡ Some (Number n)
Parsed (Err e) a = a ≡ None

digits_are : (ds : List ℕ) → has_digits ds ≡ true → (list_all is_ascii_digit ds ≡ true) × (0 < length ds)
digits_are [] h = absurd cc
digits_are (d ∷ ds) h = (h, omega arith)

pub has_digits-full : (ds : List ℕ) → 0 < length ds → has_digits ds ≡ list_all is_ascii_digit ds
has_digits-full [] h = absurd (omega arith)
has_digits-full (d ∷ ds) h = refl

pub has_digits-none : (ds : List ℕ) → length ds ≡ 0 → has_digits ds ≡ false
has_digits-none [] h = refl
has_digits-none (d ∷ ds) h = absurd (omega arith)

pub ruleset digit_laws = (common_steps, has_digits-full, has_digits-none, list_all_more, list_all_at)

with_minus : (E : Type 0) (b : ℕ) (bs : List ℕ) (r : Result ℤ E) → ParsesSigned w64 10 (b ∷ bs) r → b ≡ 45 → has_digits bs ≡ true → Parsed r (number_of (b ∷ bs))
with_minus E b bs (Ok n) p e h = let k = parse_signed_minus own {E = E} w64 (b ∷ bs) (Ok n) p e in rw (e, le-ltb (2 ^ 63) (read_on 0 bs) k.0.2, k.1) refl
with_minus E b bs (Err x) p e h = let k = parse_signed_minus own {E = E} w64 (b ∷ bs) (Err x) p e in let d = digits_are bs h in elim (cases_lt (2 ^ 63) (read_on 0 bs)) [
  | inl lt ↦ rw (e, lt-ltb (2 ^ 63) (read_on 0 bs) lt) refl
  | inr le ↦ absurd (k (d.0, d.1, le))
]

plain : (E : Type 0) (b : ℕ) (bs : List ℕ) (r : Result ℤ E) → ParsesSigned w64 10 (b ∷ bs) r → (b == 45) ≡ false → has_digits (b ∷ bs) ≡ true → Parsed r (number_of (b ∷ bs))
plain E b bs (Ok n) p e h = let k = parse_signed_digits own {E = E} w64 (b ∷ bs) (Ok n) p h in rw (e, lt-ltb (read_on 0 (b ∷ bs)) (2 ^ 63) k.0.1, k.1) refl
plain E b bs (Err x) p e h = let k = parse_signed_digits own {E = E} w64 (b ∷ bs) (Err x) p h in elim (cases_lt (read_on 0 (b ∷ bs)) (2 ^ 63)) [
  | inl lt ↦ absurd (k ((digits_are (b ∷ bs) h).1, lt))
  | inr le ↦ rw (e, le-ltb (read_on 0 (b ∷ bs)) (2 ^ 63) le) refl
]

by_sign : (E : Type 0) (b : ℕ) (bs : List ℕ) (r : Result ℤ E) (t : Bool) → (b == 45) ≡ t → ParsesSigned w64 10 (b ∷ bs) r → (if t then has_digits bs else has_digits (b ∷ bs)) ≡ true → Parsed r (number_of (b ∷ bs))
by_sign E b bs r true e p h = with_minus E b bs r p (eqb-true b 45 e) h
by_sign E b bs r false e p h = plain E b bs r p e h

pub number_parsed : (E : Type 0) (word : List ℕ) (r : Result ℤ E) → ParsesSigned w64 10 word r → is_number word ≡ true → Parsed r (node_spelled word)
unfolding node_spelled
number_parsed E [] r p h = absurd cc
number_parsed E (b ∷ bs) r p h = rw h (by_sign E b bs r (b == 45) refl p h)

abbrev pub none_of : Option FormNode
none_of = None

pub word_is : (word : List ℕ) → is_number word ≡ false → node_spelled word ≡ Some (Word word)
unfolding node_spelled
word_is word h = rw h refl

pub ruleset atom_laws = (common_steps, word_is)

pub number_ok : (E : Type 0) (word : List ℕ) (n : ℤ) (r : Result ℤ E) → r ≡ Ok n → ParsesSigned w64 10 word r → is_number word ≡ true → Some (Number n) ≡ node_spelled word
number_ok E word n r e p t = sym (number_parsed E word (Ok n) (subst (λ (x : Result ℤ E). ParsesSigned w64 10 word x) e p) t)

pub number_err : (E : Type 0) (word : List ℕ) (x : E) (r : Result ℤ E) → r ≡ Err x → ParsesSigned w64 10 word r → is_number word ≡ true → none_of ≡ node_spelled word
number_err E word x r e p t = sym (number_parsed E word (Err x) (subst (λ (y : Result ℤ E). ParsesSigned w64 10 word y) e p) t)
