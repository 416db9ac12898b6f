-- The words of a row can be written, and are guessed as what they are.
use Rattle.std.proofs.Common.{◌≡◌, ◌<◌, ◌≤◌, ◌+◌, ◌^◌, ℕ, suc, Bool, true, false, List, [], ◌∷◌, ◌++◌, length, length-append, take, drop, refl, sym, ap, ◌∙◌, arith, subst, inl, inr}
use Rattle.std.specs.Prelude.{◌&&◌, ◌||◌, ◌==◌, not, codes, nat_lt, nat_le}
use Rattle.std.specs.List.{list_all, position_or_len}
use Rattle.std.specs.Char.{is_ascii_digit}
use Rattle.std.specs.Fmt.{decimal}
use Rattle.std.specs.Str.{bytes_eq}
use Rattle.std.proofs.lemmas.Bool.{and_parts, or_cases, ltb-true, lt-ltb, leb-true, le-leb}
use Rattle.std.proofs.lemmas.Bool.Decides.{nat_tests}
use Rattle.std.proofs.lemmas.Fmt.{digits_decimal, length-decimal-le}
use Rattle.std.proofs.lemmas.List.Folds.{list_all-append}
use Rattle.am_term.specs.Names.{is_name, is_fortran_name, is_lower, is_upper, is_name_byte, is_fortran_byte, is_reserved}
use Rattle.am_text.specs.Atoms.{is_number}
use Rattle.am_text.specs.Bytes.{is_word_byte}
use Rattle.am_text.specs.Spelling.{is_word}
use Rattle.am_log.proofs.Digits.{own}
use Rattle.am_log.proofs.Digits.{number_again}
use Rattle.am_log.specs.declared.named.NamedTerm.TheVariants.{Variable, Alone}
use Rattle.am_log.specs.Spelled.{is_row_name, is_u32, variable_word}
use Rattle.am_log.specs.Guess.{is_mark, word_guess}
use Rattle.am_log.proofs.GuessSteps.{marked_word, unmarked_word}

abbrev pub not_mark : ℕ → Bool
not_mark b = not (is_mark b)

all_pass : (p q : ℕ → Bool) → ((b : ℕ) → p b ≡ true → q b ≡ true) → (bs : List ℕ) → list_all p bs ≡ true → list_all q bs ≡ true
all_pass p q f [] e = refl
all_pass p q f (b ∷ bs) e = let s = and_parts (p b) (list_all p bs) e in rw (f b s.0, all_pass p q f bs s.1) refl

-- ---- what a name of a row is
pub record IsPlain (w : List ℕ) : Type 0 where
  pub some : 0 < length w
  pub short : length w ≤ 31
  pub bytes : list_all is_word_byte w ≡ true
  pub unmarked : list_all not_mark w ≡ true
  pub no_number : (d : List ℕ) → is_number (w ++ d) ≡ false
  pub no_equals : bytes_eq w (codes "=") ≡ false

first_plain : (b : ℕ) (bs : List ℕ) → is_word_byte b ≡ true → not_mark b ≡ true → (b == 45) ≡ false → (b == 61) ≡ false → is_ascii_digit b ≡ false → list_all is_word_byte bs ≡ true → list_all not_mark bs ≡ true → length bs ≤ 30 → IsPlain (b ∷ bs)
first_plain b bs w m h q d ws ms l = record {
  some = omega arith;
  short = omega (arith, l);
  bytes = rw (w, ws) refl;
  unmarked = rw (m, ms) refl;
  no_number = λ e. rw (h, d) refl;
  no_equals = rw q refl;
}

name_word_byte : (b : ℕ) → is_name_byte b ≡ true → is_word_byte b ≡ true
name_word_byte b e = grind (arith, nat_tests)

name_no_mark : (b : ℕ) → is_name_byte b ≡ true → not_mark b ≡ true
name_no_mark b e = grind (arith, nat_tests)

fortran_word_byte : (b : ℕ) → is_fortran_byte b ≡ true → is_word_byte b ≡ true
fortran_word_byte b e = grind (arith, nat_tests)

fortran_no_mark : (b : ℕ) → is_fortran_byte b ≡ true → not_mark b ≡ true
fortran_no_mark b e = grind (arith, nat_tests)

lower_word : (b : ℕ) → is_lower b ≡ true → is_word_byte b ≡ true
lower_word b e = grind (arith, nat_tests)

lower_no_mark : (b : ℕ) → is_lower b ≡ true → not_mark b ≡ true
lower_no_mark b e = grind (arith, nat_tests)

lower_no_hyphen : (b : ℕ) → is_lower b ≡ true → (b == 45) ≡ false
lower_no_hyphen b e = grind (arith, nat_tests)

lower_no_equals : (b : ℕ) → is_lower b ≡ true → (b == 61) ≡ false
lower_no_equals b e = grind (arith, nat_tests)

lower_no_digit : (b : ℕ) → is_lower b ≡ true → is_ascii_digit b ≡ false
lower_no_digit b e = grind (arith, nat_tests)

upper_word : (b : ℕ) → is_upper b ≡ true → is_word_byte b ≡ true
upper_word b e = grind (arith, nat_tests)

upper_no_mark : (b : ℕ) → is_upper b ≡ true → not_mark b ≡ true
upper_no_mark b e = grind (arith, nat_tests)

upper_no_hyphen : (b : ℕ) → is_upper b ≡ true → (b == 45) ≡ false
upper_no_hyphen b e = grind (arith, nat_tests)

upper_no_equals : (b : ℕ) → is_upper b ≡ true → (b == 61) ≡ false
upper_no_equals b e = grind (arith, nat_tests)

upper_no_digit : (b : ℕ) → is_upper b ≡ true → is_ascii_digit b ≡ false
upper_no_digit b e = grind (arith, nat_tests)

name_plain : (w : List ℕ) → is_name w ≡ true → IsPlain w
unfolding is_name
name_plain [] e = absurd cc
name_plain (b ∷ bs) e =
    let s = and_parts (is_lower b) (list_all is_name_byte bs && (nat_le (length bs) 30 && not (is_reserved (b ∷ bs)))) e in
    let r = and_parts (list_all is_name_byte bs) (nat_le (length bs) 30 && not (is_reserved (b ∷ bs))) s.1 in
    let q = and_parts (nat_le (length bs) 30) (not (is_reserved (b ∷ bs))) r.1 in
    first_plain b bs (lower_word b s.0) (lower_no_mark b s.0) (lower_no_hyphen b s.0) (lower_no_equals b s.0) (lower_no_digit b s.0) (all_pass is_name_byte is_word_byte name_word_byte bs r.0) (all_pass is_name_byte not_mark name_no_mark bs r.0) (leb-true (length bs) 30 q.0)

fortran_plain : (w : List ℕ) → is_fortran_name w ≡ true → IsPlain w
unfolding is_fortran_name
fortran_plain [] e = absurd cc
fortran_plain (b ∷ bs) e =
    let s = and_parts (is_upper b) (list_all is_fortran_byte bs && nat_le (length bs) 5) e in
    let r = and_parts (list_all is_fortran_byte bs) (nat_le (length bs) 5) s.1 in
    let l : length bs ≤ 5 = leb-true (length bs) 5 r.1 in
    first_plain b bs (upper_word b s.0) (upper_no_mark b s.0) (upper_no_hyphen b s.0) (upper_no_equals b s.0) (upper_no_digit b s.0) (all_pass is_fortran_byte is_word_byte fortran_word_byte bs r.0) (all_pass is_fortran_byte not_mark fortran_no_mark bs r.0) (omega (arith, l))

pub plain : (w : List ℕ) → is_row_name w ≡ true → IsPlain w
plain w e = elim (or_cases (is_name w) (is_fortran_name w) e) [ inl h ↦ name_plain w h | inr h ↦ fortran_plain w h ]

-- ---- words
word_from : (w d : List ℕ) → IsPlain w → list_all is_word_byte d ≡ true → length d ≤ 17 → is_word (w ++ d) ≡ true
word_from w d p b l =
    let size : length (w ++ d) ≡ length w + length d = length-append w d in
    let some : nat_lt 0 (length (w ++ d)) ≡ true = lt-ltb 0 (length (w ++ d)) (omega (arith, size, p.some)) in
    let short : nat_le (length (w ++ d)) 48 ≡ true = le-leb (length (w ++ d)) 48 (omega (arith, size, p.short, l)) in
    let bytes : list_all is_word_byte (w ++ d) ≡ true = list_all-append is_word_byte w d ∙ rw (p.bytes, b) refl in
    rw (some, short, bytes, p.no_number d) refl

append_none : (w : List ℕ) → w ++ [] ≡ w
append_none [] = refl
append_none (b ∷ bs) = ap (λ (z : List ℕ). b ∷ z) (append_none bs)

pub name_is_word : (w : List ℕ) → is_row_name w ≡ true → is_word w ≡ true
name_is_word w e = subst (λ (z : List ℕ). is_word z ≡ true) (append_none w) (word_from w [] (plain w e) refl (omega arith))

digit_word_byte : (b : ℕ) → is_ascii_digit b ≡ true → is_word_byte b ≡ true
digit_word_byte b e = grind (arith, nat_tests)

number_bytes : (n : ℕ) → n < 2 ^ 32 → list_all is_word_byte (63 ∷ decimal n) ≡ true
number_bytes n h = all_pass is_ascii_digit is_word_byte digit_word_byte (decimal n) (digits_decimal own n (omega arith))

number_length : (n : ℕ) → n < 2 ^ 32 → length (63 ∷ decimal n) ≤ 17
number_length n h = let l = length-decimal-le 10 n (omega arith) (omega arith) (omega arith) in omega (arith, l)

pub small : (n : ℕ) → is_u32 n ≡ true → n < 2 ^ 32
small n e = ltb-true n (2 ^ 32) e

pub variable_is_word : (s : List ℕ) (n : ℕ) → is_row_name s ≡ true → is_u32 n ≡ true → is_word (variable_word s n) ≡ true
variable_is_word s n e f = word_from s (63 ∷ decimal n) (plain s e) (number_bytes n (small n f)) (number_length n (small n f))

-- ---- guesses
mark_after : (s d : List ℕ) → list_all not_mark s ≡ true → position_or_len is_mark (s ++ 63 ∷ d) ≡ length s
mark_after [] d e = refl
mark_after (b ∷ bs) d e =
    let p = and_parts (not_mark b) (list_all not_mark bs) e in
    let r = mark_after bs d p.1 in
    rw (p.0, r) (omega arith)

mark_none : (s : List ℕ) → list_all not_mark s ≡ true → position_or_len is_mark s ≡ length s
mark_none [] e = refl
mark_none (b ∷ bs) e =
    let p = and_parts (not_mark b) (list_all not_mark bs) e in
    let r = mark_none bs p.1 in
    rw (p.0, r) (omega arith)

take_front : (s d : List ℕ) → take (length s) (s ++ d) ≡ s
take_front [] d = refl
take_front (b ∷ bs) d = ap (λ (z : List ℕ). b ∷ z) (take_front bs d)

drop_front : (s d : List ℕ) (b : ℕ) → drop (length s + 1) (s ++ b ∷ d) ≡ d
drop_front [] d b = refl
drop_front (x ∷ xs) d b =
    let e : length (x ∷ xs) + 1 ≡ suc (length xs + 1) = omega arith in
    ap (λ (k : ℕ). drop k (x ∷ xs ++ b ∷ d)) e ∙ drop_front xs d b

pub variable_guess : (s : List ℕ) (n : ℕ) → is_row_name s ≡ true → is_u32 n ≡ true → word_guess (variable_word s n) ≡ Variable s n
variable_guess s n e f =
    let at : position_or_len is_mark (variable_word s n) ≡ length s = mark_after s (decimal n) (plain s e).unmarked in
    let size : length (variable_word s n) ≡ length s + length (63 ∷ decimal n) = length-append s (63 ∷ decimal n) in
    sym (marked_word (variable_word s n) s (decimal n) n (omega (arith, at, size))
    (sym (ap (λ (k : ℕ). take k (variable_word s n)) at ∙ take_front s (63 ∷ decimal n)))
    (sym (ap (λ (k : ℕ). drop (k + 1) (variable_word s n)) at ∙ drop_front s (decimal n) 63))
    (sym (number_again n (small n f))))

pub name_guess : (w : List ℕ) → is_row_name w ≡ true → word_guess w ≡ Alone w
name_guess w e = sym (unmarked_word w (mark_none w (plain w e).unmarked))

-- ---- a name is no word of a row
not_reserved : (w : List ℕ) → is_name w ≡ true → bytes_eq w (codes "not") ≡ false
unfolding is_name
not_reserved [] e = absurd cc
not_reserved (b ∷ bs) e =
    let s = and_parts (is_lower b) (list_all is_name_byte bs && (nat_le (length bs) 30 && not (is_reserved (b ∷ bs)))) e in
    let r = and_parts (list_all is_name_byte bs) (nat_le (length bs) 30 && not (is_reserved (b ∷ bs))) s.1 in
    let q = and_parts (nat_le (length bs) 30) (not (is_reserved (b ∷ bs))) r.1 in
    last (bytes_eq (b ∷ bs) (codes "all")) (bytes_eq (b ∷ bs) (codes "exists")) (bytes_eq (b ∷ bs) (codes "and")) (bytes_eq (b ∷ bs) (codes "or")) (bytes_eq (b ∷ bs) (codes "not")) q.1
  where
    last : (p q r s t : Bool) → not (p || (q || (r || (s || t)))) ≡ true → t ≡ false
    last p q r s false h = refl
    last true q r s true h = sym h
    last false true r s true h = sym h
    last false false true s true h = sym h
    last false false false true true h = sym h
    last false false false false true h = sym h

upper_not : (w : List ℕ) → is_fortran_name w ≡ true → bytes_eq w (codes "not") ≡ false
unfolding is_fortran_name
upper_not [] e = absurd cc
upper_not (b ∷ bs) e =
    let s = and_parts (is_upper b) (list_all is_fortran_byte bs && nat_le (length bs) 5) e in
    let d : (b == 110) ≡ false = grind (arith, nat_tests, s.0) in
    rw d refl

pub name_no_not : (w : List ℕ) → is_row_name w ≡ true → bytes_eq w (codes "not") ≡ false
name_no_not w e = elim (or_cases (is_name w) (is_fortran_name w) e) [ inl h ↦ not_reserved w h | inr h ↦ upper_not w h ]
