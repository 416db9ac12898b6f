-- Texts without two blanks in a row, and without blanks at their ends, are cut and joined again.
use Rattle.std.proofs.Common.{◌≡◌, ◌<◌, ◌≤◌, ◌^◌, ℕ, zero, suc, Bool, true, false, List, [], ◌∷◌, ◌++◌, length, length-drop, take, drop, map, refl, ap, ◌∙◌, arith, append_assoc}
use Rattle.std.specs.Prelude.{◌&&◌, ◌==◌, not, nat_lt, nat_le, pos, if◌then◌else◌}
use Rattle.std.specs.List.{list_all, join_with_byte}
use Rattle.std.specs.Char.{is_ascii_digit}
use Rattle.std.specs.Fmt.{decimal}
use Rattle.std.proofs.lemmas.Bool.{and_parts, ltb-true}
use Rattle.std.proofs.lemmas.Bool.Decides.{nat_tests}
use Rattle.std.proofs.lemmas.Fmt.{digits_decimal, decimal_nonempty}
use Rattle.std.proofs.lemmas.List.{take-append-drop}
use Rattle.am_text.specs.declared.form.Form.{Form}
use Rattle.am_text.specs.declared.form.FormNode.TheVariants as node
use Rattle.am_text.specs.Atoms.{is_number}
use Rattle.am_text.specs.Bytes.{is_word_byte}
use Rattle.am_text.specs.Spelling.{is_word, written}
use Rattle.am_text.proofs.Folds.{written-Word, written-Number, written-List, written-form}
use Rattle.am_log.proofs.Digits.{own}
use Rattle.am_syntax.specs.Forms.{word_form, list_form, all_true}
use Rattle.am_log.specs.Cut.{longest, cut, pieced_together, reach}
use Rattle.am_log.specs.Groups.{is_inside}
use Rattle.am_log.specs.Spelled.{number_form, is_u32}
use Rattle.am_log.proofs.Cutting.{cut_stops, cut_goes_on, longest_within}
use Rattle.am_log.proofs.WordsOf.{small}

-- behind a blank, or behind another byte: no two blanks in a row, none at the end, and no end of a line
abbrev pub tidy : Bool → List ℕ → Bool
tidy blank [] = not blank
tidy blank (b ∷ bs) = if b == 32 then not blank && tidy true bs else is_inside b && tidy false bs

-- ---- tidy texts one behind another
tidy_step : (t : Bool) (b : ℕ) (blank : Bool) (bs rest : List ℕ) → (if t then not blank && tidy true bs else is_inside b && tidy false bs) ≡ true → ((c : Bool) → tidy c bs ≡ true → tidy c (bs ++ rest) ≡ tidy false rest)
    → (if t then not blank && tidy true (bs ++ rest) else is_inside b && tidy false (bs ++ rest)) ≡ tidy false rest
tidy_step true b blank bs rest e h = let s = and_parts (not blank) (tidy true bs) e in rw (s.0, h true s.1) refl
tidy_step false b blank bs rest e h = let s = and_parts (is_inside b) (tidy false bs) e in rw (s.0, h false s.1) refl

pub tidy_append : (x rest : List ℕ) (blank : Bool) → tidy blank x ≡ true → tidy blank (x ++ rest) ≡ tidy false rest
tidy_append [] rest false e = refl
tidy_append [] rest true e = absurd cc
tidy_append (b ∷ bs) rest blank e = tidy_step (b == 32) b blank bs rest e (λ c h. tidy_append bs rest c h)

-- ---- words and numbers
word_tidy_byte : (b : ℕ) → is_word_byte b ≡ true → ((b == 32) ≡ false) × (is_inside b ≡ true)
word_tidy_byte b e = (blank, line)
  where
    blank : (b == 32) ≡ false
    blank = grind (arith, nat_tests)

    line : is_inside b ≡ true
    line = grind (arith, nat_tests)

bytes_tidy : (w : List ℕ) → list_all is_word_byte w ≡ true → tidy false w ≡ true
bytes_tidy [] e = refl
bytes_tidy (b ∷ bs) e =
    let s = and_parts (is_word_byte b) (list_all is_word_byte bs) e in
    let t = word_tidy_byte b s.0 in
    rw (t.0, t.1, bytes_tidy bs s.1) refl

some_tidy : (w : List ℕ) → 0 < length w → list_all is_word_byte w ≡ true → tidy true w ≡ true
some_tidy [] l e = absurd (omega arith)
some_tidy (b ∷ bs) l e =
    let s = and_parts (is_word_byte b) (list_all is_word_byte bs) e in
    let t = word_tidy_byte b s.0 in
    rw (t.0, t.1, bytes_tidy bs s.1) refl

word_tidy : (w : List ℕ) → is_word w ≡ true → tidy true w ≡ true
word_tidy w e =
    let s = and_parts (nat_lt 0 (length w)) (nat_le (length w) 48 && (list_all is_word_byte w && not (is_number w))) e in
    let t = and_parts (nat_le (length w) 48) (list_all is_word_byte w && not (is_number w)) s.1 in
    let u = and_parts (list_all is_word_byte w) (not (is_number w)) t.1 in
    some_tidy w (ltb-true 0 (length w) s.0) u.0

digit_word : (b : ℕ) → is_ascii_digit b ≡ true → is_word_byte b ≡ true
digit_word b e = grind (arith, nat_tests)

digits_word : (ds : List ℕ) → list_all is_ascii_digit ds ≡ true → list_all is_word_byte ds ≡ true
digits_word [] e = refl
digits_word (d ∷ ds) e = let s = and_parts (is_ascii_digit d) (list_all is_ascii_digit ds) e in rw (digit_word d s.0, digits_word ds s.1) refl

decimal_tidy : (n : ℕ) → n < 2 ^ 32 → tidy true (decimal n) ≡ true
decimal_tidy n h = some_tidy (decimal n) (decimal_nonempty n (omega arith)) (digits_word (decimal n) (digits_decimal own n (omega arith)))

-- ---- forms
abbrev pub neat : Form → Bool
neat f = tidy true (written f)

pub word_neat : (w : List ℕ) → is_word w ≡ true → neat (word_form w) ≡ true
word_neat w e = ap (tidy true) (written-form 0 (node.Word w) ∙ written-Word w) ∙ word_tidy w e

pub number_neat : (n : ℕ) → is_u32 n ≡ true → neat (number_form n) ≡ true
number_neat n e = ap (tidy true) (written-form 0 (node.Number (pos n)) ∙ written-Number (pos n)) ∙ decimal_tidy n (small n e)

loose_step : (t : Bool) (b : ℕ) (bs : List ℕ) → (if t then false else is_inside b && tidy false bs) ≡ true → (if t then tidy true bs else is_inside b && tidy false bs) ≡ true
loose_step true b bs e = absurd cc
loose_step false b bs e = e

either : (blank : Bool) (x : List ℕ) → tidy true x ≡ true → tidy blank x ≡ true
either true x e = e
either false [] e = refl
either false (b ∷ bs) e = loose_step (b == 32) b bs e

join_tidy : (f : Form) (fs : List Form) (rest : List ℕ) (blank : Bool) → neat f ≡ true → all_true (map neat fs) ≡ true → tidy blank (join_with_byte 32 (map written (f ∷ fs)) ++ rest) ≡ tidy false rest
join_tidy f [] rest blank e k = tidy_append (written f) rest blank (either blank (written f) e)
join_tidy f (g ∷ fs) rest blank e k =
    let s = and_parts (neat g) (all_true (map neat fs)) k in
    ap (tidy blank) (append_assoc (written f) (32 ∷ join_with_byte 32 (map written (g ∷ fs))) rest)
    ∙ tidy_append (written f) (32 ∷ join_with_byte 32 (map written (g ∷ fs)) ++ rest) blank (either blank (written f) e)
    ∙ join_tidy g fs rest true s.0 s.1

members_tidy : (fs : List Form) → all_true (map neat fs) ≡ true → tidy false (join_with_byte 32 (map written fs) ++ 41 ∷ []) ≡ true
members_tidy [] e = refl
members_tidy (f ∷ fs) e = let s = and_parts (neat f) (all_true (map neat fs)) e in join_tidy f fs (41 ∷ []) false s.0 s.1

pub list_neat : (fs : List Form) → all_true (map neat fs) ≡ true → neat (list_form fs) ≡ true
list_neat fs e = ap (tidy true) (written-form 0 (node.List fs) ∙ written-List fs) ∙ members_tidy fs e

-- ---- a tidy text is cut into pieces that join to it
rest_by : (n b : ℕ) (bs : List ℕ) (t blank : Bool) → (b == 32) ≡ t → (if t then not blank && tidy true bs else is_inside b && tidy false bs) ≡ true → ((c : Bool) → tidy c bs ≡ true → 0 < n → tidy false (drop n bs) ≡ true) → 0 < reach b n → tidy false (drop (reach b n) (b ∷ bs)) ≡ true
rest_by zero b bs true blank w e h l = absurd (let z : reach b 0 ≡ 0 = rw w refl in omega (arith, z, l))
rest_by zero b bs false blank w e h l = rw w (and_parts (is_inside b) (tidy false bs) e).1
rest_by (suc n) b bs true blank w e h l = h true (and_parts (not blank) (tidy true bs) e).1 (omega arith)
rest_by (suc n) b bs false blank w e h l = h false (and_parts (is_inside b) (tidy false bs) e).1 (omega arith)

rest_tidy : (w : ℕ) (t : List ℕ) (blank : Bool) → tidy blank t ≡ true → 0 < longest w t → tidy false (drop (longest w t) t) ≡ true
unfolding longest
rest_tidy zero t blank e l = absurd (omega (arith, l))
rest_tidy (suc w) [] blank e l = absurd (omega (arith, l))
rest_tidy (suc w) (b ∷ bs) blank e l = rest_by (longest w bs) b bs (b == 32) blank refl e (λ c h k. rest_tidy w bs c h k) l

reach_some : (b n : ℕ) → (b == 32) ≡ false → 0 < reach b n
reach_some b zero e = rw e (omega arith)
reach_some b (suc n) e = omega arith

reach_over : (b n : ℕ) → 0 < n → 0 < reach b n
reach_over b zero h = absurd (omega arith)
reach_over b (suc n) h = omega arith

second_some : (w c : ℕ) (cs : List ℕ) (t : Bool) → (c == 32) ≡ t → (if t then false else is_inside c && tidy false cs) ≡ true → 0 < reach c (longest w cs)
second_some w c cs true h e = absurd cc
second_some w c cs false h e = reach_some c (longest w cs) h

first_some : (w b : ℕ) (bs : List ℕ) (t : Bool) → (b == 32) ≡ t → (if t then tidy true bs else is_inside b && tidy false bs) ≡ true → 0 < reach b (longest (suc w) bs)
unfolding longest
first_some w b bs false h e = reach_some b (longest (suc w) bs) h
first_some w b [] true h e = absurd cc
first_some w b (c ∷ cs) true h e = reach_over b (longest (suc w) (c ∷ cs)) (second_some w c cs (c == 32) refl e)

some_piece : (w b : ℕ) (bs : List ℕ) → tidy false (b ∷ bs) ≡ true → 0 < longest (suc (suc w)) (b ∷ bs)
unfolding longest
some_piece w b bs e = first_some w b bs (b == 32) refl e

join_within : (w m : ℕ) (t : List ℕ) → length t ≤ m → tidy false t ≡ true → pieced_together (cut (suc (suc w)) t) ≡ t
join_within w m [] l e = ap pieced_together (cut_stops (suc (suc w)) [] (let k = longest_within (suc (suc w)) [] in omega (arith, k)))
join_within w zero (b ∷ bs) l e = absurd (omega (arith, l))
join_within w (suc m) (b ∷ bs) l e =
    let s = some_piece w b bs e in
    ap pieced_together (cut_goes_on (suc (suc w)) (b ∷ bs) s)
    ∙ ap (λ (z : List ℕ). take (longest (suc (suc w)) (b ∷ bs)) (b ∷ bs) ++ z) (join_within w m (drop (longest (suc (suc w)) (b ∷ bs)) (b ∷ bs)) (omega (arith, length-drop (longest (suc (suc w)) (b ∷ bs)) (b ∷ bs), s, l)) (rest_tidy (suc (suc w)) (b ∷ bs) false e s))
    ∙ take-append-drop (longest (suc (suc w)) (b ∷ bs)) (b ∷ bs)

pub tidy_joined : (w : ℕ) (t : List ℕ) → tidy true t ≡ true → pieced_together (cut (suc (suc w)) t) ≡ t
tidy_joined w t e = join_within w (length t) t (omega arith) (either false t e)

-- ---- a tidy text is one line
inside_by : (t : Bool) (b : ℕ) (blank : Bool) (bs : List ℕ) → (b == 32) ≡ t → (if t then not blank && tidy true bs else is_inside b && tidy false bs) ≡ true → ((c : Bool) → tidy c bs ≡ true → list_all is_inside bs ≡ true) → list_all is_inside (b ∷ bs) ≡ true
inside_by true b blank bs w e h =
    let k : is_inside b ≡ true = grind (arith, nat_tests, w) in
    rw (k, h true (and_parts (not blank) (tidy true bs) e).1) refl
inside_by false b blank bs w e h = let s = and_parts (is_inside b) (tidy false bs) e in rw (s.0, h false s.1) refl

pub tidy_inside : (t : List ℕ) (blank : Bool) → tidy blank t ≡ true → list_all is_inside t ≡ true
tidy_inside [] blank e = refl
tidy_inside (b ∷ bs) blank e = inside_by (b == 32) b blank bs refl e (λ c h. tidy_inside bs c h)
