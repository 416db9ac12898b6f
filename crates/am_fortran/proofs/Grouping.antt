-- Lines and groups of a text that is put together from lines.
use Rattle.std.proofs.Common.{◌≡◌, ◌++◌, ◌<◌, ◌≤◌, ◌+◌, ◌-◌, ℕ, suc, Bool, true, false, List, [], ◌∷◌, length, length-append, length-drop, take, drop, take_all, get_or, inl, inr, codes, refl, sym, ap, ◌∙◌, arith}
use Rattle.std.specs.List.{list_all, starts_with}
use Rattle.std.specs.Prelude.{◌&&◌, ◌==◌, not, if◌then◌else◌}
use Rattle.std.proofs.lemmas.Grind.{common_steps}
use Rattle.std.proofs.lemmas.Bool.{and_parts, eqb-true, eqb-false, ne_eqb, cases_lt}
use Rattle.std.proofs.lemmas.List.{take-append-drop, drop_all}
use Rattle.std.proofs.Math.Seq.{take-append-add}
use mathlib.Core.List.{append-nil}
use Rattle.am_fortran.specs.Drafts.{is_ended, IsLineFront, IsGroupFront}
use Rattle.am_fortran.specs.Lines.{Line, onto_first, lines_of, is_continuation, goes_on, onto_group, groups, group_text, is_whole}

-- a byte inside a line
abbrev pub is_inside : ℕ → Bool
is_inside b = not (b == 10)

abbrev pub whole : List ℕ → Line
whole t = record { text = t; ended = true }

abbrev pub part : List ℕ → Line
part t = record { text = t; ended = false }

inside_not : (b : ℕ) → is_inside b ≡ true → (b == 10) ≡ false
inside_not b h = elim (b == 10) as (λ t. not t ≡ true → t ≡ false) [ true ↦ λ k. sym k | false ↦ λ k. refl ] h

pub lines_over : (t rest : List ℕ) → list_all is_inside t ≡ true → lines_of (t ++ 10 ∷ rest) ≡ whole t ∷ lines_of rest
unfolding lines_of onto_first
lines_over [] rest h = refl
lines_over (b ∷ bs) rest h =
    let p = and_parts (is_inside b) (list_all is_inside bs) h in
    rw (inside_not b p.0, lines_over bs rest p.1) refl

pub lines_part : (b : ℕ) (bs : List ℕ) → list_all is_inside (b ∷ bs) ≡ true → lines_of (b ∷ bs) ≡ part (b ∷ bs) ∷ []
unfolding lines_of onto_first
lines_part b [] h = let p = and_parts (is_inside b) true h in rw (inside_not b p.0) refl
lines_part b (c ∷ cs) h =
    let p = and_parts (is_inside b) (list_all is_inside (c ∷ cs)) h in
    rw (inside_not b p.0, lines_part c cs p.1) refl

-- a group is one line and continuation lines behind it
abbrev pub is_one_group : List Line → Bool
is_one_group [] = false
is_one_group (l ∷ ls) = list_all is_continuation ls

group_from : (l : Line) (ls ms : List Line) → list_all is_continuation ls ≡ true → goes_on ms ≡ false → groups (l ∷ ls ++ ms) ≡ (l ∷ ls) ∷ groups ms
unfolding groups onto_group
group_from l [] ms h g = rw g refl
group_from l (m ∷ ls) ms h g =
    let p = and_parts (is_continuation m) (list_all is_continuation ls) h in
    rw (p.0, group_from m ls ms p.1 g) refl

pub group_first : (ls ms : List Line) → is_one_group ls ≡ true → goes_on ms ≡ false → groups (ls ++ ms) ≡ ls ∷ groups ms
group_first [] ms h g = absurd cc
group_first (l ∷ ls) ms h g = group_from l ls ms h g

text_onto : (b : ℕ) (ls : List Line) → group_text (onto_first b ls) ≡ b ∷ group_text ls
unfolding onto_first
text_onto b [] = refl
text_onto b (l ∷ ls) = elim l.ended as (λ t. (if t then (b ∷ l.text) ++ 10 ∷ [] else b ∷ l.text) ++ group_text ls ≡ b ∷ ((if t then l.text ++ 10 ∷ [] else l.text) ++ group_text ls)) [ true ↦ refl | false ↦ refl ]

text_step : (b : ℕ) (bs : List ℕ) (t : Bool) → (b == 10) ≡ t → group_text (lines_of bs) ≡ bs → group_text (if t then whole [] ∷ lines_of bs else onto_first b (lines_of bs)) ≡ b ∷ bs
text_step b bs true e h = rw (h, eqb-true b 10 e) refl
text_step b bs false e h = text_onto b (lines_of bs) ∙ ap (λ (z : List ℕ). b ∷ z) h

-- the lines of a text are that text
pub text_lines : (t : List ℕ) → group_text (lines_of t) ≡ t
unfolding lines_of
text_lines [] = refl
text_lines (b ∷ bs) = text_step b bs (b == 10) refl (text_lines bs)

onto_some : (b : ℕ) (ls : List Line) → 0 < length (onto_first b ls)
unfolding onto_first
onto_some b [] = omega arith
onto_some b (l ∷ ls) = omega arith

lines_some : (b : ℕ) (bs : List ℕ) → 0 < length (lines_of (b ∷ bs))
unfolding lines_of onto_first
lines_some b bs = elim (b == 10) as (λ t. 0 < length (if t then whole [] ∷ lines_of bs else onto_first b (lines_of bs))) [ true ↦ omega arith | false ↦ onto_some b (lines_of bs) ]

whole_onto : (b : ℕ) (ls : List Line) → 0 < length ls → is_whole (onto_first b ls) ≡ is_whole ls
unfolding onto_first
whole_onto b [] h = absurd (omega arith)
whole_onto b (l ∷ ls) h = refl

whole_step : (b c : ℕ) (cs : List ℕ) (t : Bool) → is_whole (lines_of (c ∷ cs)) ≡ is_ended (c ∷ cs) → is_whole (if t then whole [] ∷ lines_of (c ∷ cs) else onto_first b (lines_of (c ∷ cs))) ≡ is_ended (c ∷ cs)
whole_step b c cs true h = h
whole_step b c cs false h = whole_onto b (lines_of (c ∷ cs)) (lines_some c cs) ∙ h

pub whole_lines : (t : List ℕ) → is_whole (lines_of t) ≡ is_ended t
unfolding lines_of onto_first
whole_lines [] = refl
whole_lines (b ∷ []) = elim (b == 10) as (λ t. is_whole (if t then whole [] ∷ [] else onto_first b []) ≡ t) [ true ↦ refl | false ↦ refl ]
whole_lines (b ∷ c ∷ cs) = whole_step b c cs (b == 10) (whole_lines (c ∷ cs))

-- the first line's bytes decide whether it is a continuation line
abbrev pub first_text : List ℕ → List ℕ
first_text [] = []
first_text (b ∷ bs) = if b == 10 then [] else b ∷ first_text bs

head_text : List Line → List ℕ
head_text [] = []
head_text (l ∷ ls) = l.text

head_onto : (b : ℕ) (ls : List Line) → head_text (onto_first b ls) ≡ b ∷ head_text ls
unfolding onto_first head_text
head_onto b [] = refl
head_onto b (l ∷ ls) = refl

head_step : (b : ℕ) (bs : List ℕ) (t : Bool) → head_text (lines_of bs) ≡ first_text bs → head_text (if t then whole [] ∷ lines_of bs else onto_first b (lines_of bs)) ≡ (if t then [] else b ∷ first_text bs)
unfolding head_text
head_step b bs true h = refl
head_step b bs false h = head_onto b (lines_of bs) ∙ ap (λ (z : List ℕ). b ∷ z) h

head_lines : (t : List ℕ) → head_text (lines_of t) ≡ first_text t
unfolding lines_of head_text
head_lines [] = refl
head_lines (b ∷ bs) = head_step b bs (b == 10) (head_lines bs)

goes_by_text : (ls : List Line) → goes_on ls ≡ starts_with ◌==◌ (head_text ls) (codes "     .")
unfolding head_text
goes_by_text [] = refl
goes_by_text (l ∷ ls) = refl

front_step : (c : ℕ) (p : List ℕ) (b : ℕ) (bs : List ℕ) → is_inside c ≡ true → (t : Bool) → (b == 10) ≡ t → starts_with ◌==◌ (first_text bs) p ≡ starts_with ◌==◌ bs p
    → starts_with ◌==◌ (if t then [] else b ∷ first_text bs) (c ∷ p) ≡ starts_with ◌==◌ (b ∷ bs) (c ∷ p)
front_step c p b bs i true e h =
    let q : (c == b) ≡ false = ne_eqb c b (λ w. eqb-false c 10 (inside_not c i) (w ∙ eqb-true b 10 e)) in
    rw q refl
front_step c p b bs i false e h = ap (λ (z : Bool). (c == b) && z) h

same_front : (p bs : List ℕ) → list_all is_inside p ≡ true → starts_with ◌==◌ (first_text bs) p ≡ starts_with ◌==◌ bs p
same_front [] bs h = refl
same_front (c ∷ p) [] h = refl
same_front (c ∷ p) (b ∷ bs) h =
    let q = and_parts (is_inside c) (list_all is_inside p) h in
    front_step c p b bs q.0 (b == 10) refl (same_front p bs q.1)

pub goes_on_lines : (t : List ℕ) → goes_on (lines_of t) ≡ starts_with ◌==◌ t (codes "     .")
goes_on_lines t = goes_by_text (lines_of t) ∙ ap (λ (z : List ℕ). starts_with ◌==◌ z (codes "     .")) (head_lines t) ∙ same_front (codes "     .") t refl

-- texts joined behind an end of a line

onto_append : (b : ℕ) (ls ms : List Line) → 0 < length ls → onto_first b (ls ++ ms) ≡ onto_first b ls ++ ms
unfolding onto_first
onto_append b [] ms h = absurd (omega arith)
onto_append b (l ∷ ls) ms h = refl

append_step : (b c : ℕ) (cs bs : List ℕ) (t : Bool) → lines_of (c ∷ cs ++ bs) ≡ lines_of (c ∷ cs) ++ lines_of bs
    → (if t then whole [] ∷ lines_of (c ∷ cs ++ bs) else onto_first b (lines_of (c ∷ cs ++ bs))) ≡ (if t then whole [] ∷ lines_of (c ∷ cs) else onto_first b (lines_of (c ∷ cs))) ++ lines_of bs
append_step b c cs bs true h = ap (λ (z : List Line). whole [] ∷ z) h
append_step b c cs bs false h = ap (onto_first b) h ∙ onto_append b (lines_of (c ∷ cs)) (lines_of bs) (lines_some c cs)

pub lines_append : (cs bs : List ℕ) → is_ended cs ≡ true → lines_of (cs ++ bs) ≡ lines_of cs ++ lines_of bs
unfolding lines_of onto_first
lines_append [] bs h = refl
lines_append (b ∷ []) bs h = rw h refl
lines_append (b ∷ c ∷ cs) bs h = append_step b c cs bs (b == 10) (lines_append (c ∷ cs) bs h)

pub ended_snoc : (t : List ℕ) → is_ended (t ++ 10 ∷ []) ≡ true
ended_snoc [] = refl
ended_snoc (b ∷ []) = refl
ended_snoc (b ∷ c ∷ cs) = ended_snoc (c ∷ cs)

pub one_ended : (t : List ℕ) → list_all is_inside t ≡ true → length (lines_of (t ++ 10 ∷ [])) ≡ 1
unfolding lines_of
one_ended t h = ap length (lines_over t [] h)

pub one_part : (t : List ℕ) → 0 < length t → list_all is_inside t ≡ true → length (lines_of t) ≡ 1
one_part [] s h = absurd (omega arith)
one_part (b ∷ bs) s h = ap length (lines_part b bs h)

pub one_is_group : (ls : List Line) → length ls ≡ 1 → is_one_group ls ≡ true
one_is_group [] h = absurd (omega (arith, h))
one_is_group (l ∷ []) h = refl
one_is_group (l ∷ m ∷ ms) h = absurd (omega (arith, h))

all_more : (ls : List Line) (m : Line) → list_all is_continuation ls ≡ true → is_continuation m ≡ true → list_all is_continuation (ls ++ m ∷ []) ≡ true
all_more [] m h k = rw k refl
all_more (l ∷ ls) m h k = let p = and_parts (is_continuation l) (list_all is_continuation ls) h in rw (p.0, all_more ls m p.1 k) refl

-- one more continuation line
group_more : (ls ms ns : List Line) → is_one_group ls ≡ true → length ms ≡ 1 → goes_on (ms ++ ns) ≡ true → is_one_group (ls ++ ms) ≡ true
group_more [] ms ns h k g = absurd cc
group_more (l ∷ ls) [] ns h k g = absurd (omega (arith, k))
group_more (l ∷ ls) (m ∷ []) ns h k g = all_more ls m h g
group_more (l ∷ ls) (m ∷ n ∷ ms) ns h k g = absurd (omega (arith, k))

pub last_ends : (t : List ℕ) → 0 < length t → is_ended t ≡ (get_or t (length t - 1) 0 == 10)
last_ends [] h = absurd (omega arith)
last_ends (b ∷ []) h = refl
last_ends (b ∷ c ∷ cs) h =
    let e : length (b ∷ c ∷ cs) - 1 ≡ suc (length (c ∷ cs) - 1) = omega arith in
    last_ends (c ∷ cs) (omega arith) ∙ sym (ap (λ (k : ℕ). get_or (b ∷ c ∷ cs) k 0 == 10) e)

pub none_ends : (t : List ℕ) → length t ≡ 0 → is_ended t ≡ true
none_ends [] h = refl
none_ends (b ∷ bs) h = absurd (omega (arith, h))

pub ruleset last_laws = (common_steps, last_ends, none_ends)

-- what the first line and the first group of a text are

pub front_ended : (bytes : List ℕ) (i : ℕ) → i < length bytes → get_or bytes i 0 ≡ 10 → list_all is_inside (take i bytes) ≡ true → IsLineFront bytes (i + 1)
front_ended bytes i l e h =
    let t : take (i + 1) bytes ≡ take i bytes ++ 10 ∷ [] = grind (arith, common_steps) in
    record {
      some = omega arith;
      within = omega arith;
      one = rw t (one_ended (take i bytes) h);
      ended = λ _. rw t (ended_snoc (take i bytes));
    }

pub front_all : (bytes : List ℕ) → 0 < length bytes → list_all is_inside bytes ≡ true → IsLineFront bytes (length bytes)
front_all bytes s h =
    let t : take (length bytes) bytes ≡ bytes = grind (arith, common_steps) in
    record {
      some = s;
      within = omega arith;
      one = rw t (one_part bytes s h);
      ended = λ l. absurd (omega (arith, l));
    }

-- these bytes are the first line and continuation lines behind it
pub record IsFront (bytes : List ℕ) (end count : ℕ) : Type 0 where
  pub some : 0 < end
  pub within : end ≤ length bytes
  pub one : is_one_group (lines_of (take end bytes)) ≡ true
  pub counted : count ≡ length (lines_of (take end bytes))
  pub few : count ≤ end
  pub ended : end < length bytes → is_ended (take end bytes) ≡ true

pub front_line : (bytes : List ℕ) (end : ℕ) → IsLineFront bytes end → IsFront bytes end 1
front_line bytes end f = record {
  some = f.some;
  within = f.within;
  one = one_is_group (lines_of (take end bytes)) f.one;
  counted = sym f.one;
  few = omega (arith, f.some);
  ended = f.ended;
}

pub ruleset first_laws = (common_steps, goes_on_lines)

pub rest_is : (xs : List ℕ) (i : ℕ) → take (length xs - i) (drop i xs) ≡ drop i xs
rest_is xs i = take_all (length xs - i) (drop i xs) (omega (arith, length-drop i xs))

pub goes_some : (t : List ℕ) → goes_on (lines_of t) ≡ true → 0 < length t
unfolding lines_of
goes_some [] h = absurd cc
goes_some (b ∷ bs) h = omega arith

ended_append : (cs bs : List ℕ) → 0 < length bs → is_ended (cs ++ bs) ≡ is_ended bs
ended_append [] bs h = refl
ended_append (c ∷ []) [] h = absurd (omega arith)
ended_append (c ∷ []) (b ∷ bs) h = refl
ended_append (c ∷ d ∷ ds) bs h = ended_append (d ∷ ds) bs h

pub take_two : (xs : List ℕ) (m n : ℕ) → m ≤ length xs → take (m + n) xs ≡ take m xs ++ take n (drop m xs)
take_two xs m n h =
    let e : length (take m xs) ≡ m = grind (arith, common_steps) in
    ap (λ (l : List ℕ). take (m + n) l) (sym (take-append-drop m xs))
    ∙ ap (λ (k : ℕ). take (k + n) (take m xs ++ drop m xs)) (sym e)
    ∙ take-append-add (take m xs) (drop m xs) n

pub two_parts : (t : List ℕ) (r : ℕ) → (r < length t → is_ended (take r t) ≡ true) → lines_of t ≡ lines_of (take r t) ++ lines_of (drop r t)
unfolding lines_of
two_parts t r f = elim (cases_lt r (length t)) [
  | inl lt ↦ ap lines_of (sym (take-append-drop r t)) ∙ lines_append (take r t) (drop r t) (f lt)
  | inr le ↦ rw (take_all r t le, drop_all r t le) (sym (append-nil (lines_of t)))
]

pub front_group : (bytes : List ℕ) (end count : ℕ) → IsFront bytes end count → goes_on (lines_of (drop end bytes)) ≡ false → IsGroupFront bytes end count
front_group bytes end count f g = record {
  some = f.some;
  within = f.within;
  group = ap groups (two_parts bytes end f.ended) ∙ group_first (lines_of (take end bytes)) (lines_of (drop end bytes)) f.one g;
  counted = f.counted;
  few = f.few;
}

pub front_more : (bytes : List ℕ) (end count r : ℕ) → IsFront bytes end count → goes_on (lines_of (drop end bytes)) ≡ true → IsLineFront (drop end bytes) r → IsFront bytes (end + r) (count + 1)
front_more bytes end count r f g l =
    let some : 0 < length (drop end bytes) = goes_some (drop end bytes) g in
    let size : length (drop end bytes) ≡ length bytes - end = length-drop end bytes in
    let here : is_ended (take end bytes) ≡ true = f.ended (omega arith) in
    let front : take (end + r) bytes ≡ take end bytes ++ take r (drop end bytes) = take_two bytes end r f.within in
    let both : lines_of (take (end + r) bytes) ≡ lines_of (take end bytes) ++ lines_of (take r (drop end bytes)) = ap lines_of front ∙ lines_append (take end bytes) (take r (drop end bytes)) here in
    let next : goes_on (lines_of (take r (drop end bytes)) ++ lines_of (drop r (drop end bytes))) ≡ true = sym (ap goes_on (two_parts (drop end bytes) r l.ended)) ∙ g in
    let part : length (take r (drop end bytes)) ≡ r = grind (arith, common_steps, l.within) in
    record {
      some = omega (arith, l.some);
      within = omega (arith, l.within);
      one = rw both (group_more (lines_of (take end bytes)) (lines_of (take r (drop end bytes))) (lines_of (drop r (drop end bytes))) f.one l.one next);
      counted = rw (both, length-append (lines_of (take end bytes)) (lines_of (take r (drop end bytes))), l.one) (ap (λ (k : ℕ). k + 1) f.counted);
      few = omega (arith, f.few, l.some);
      ended = λ lt. rw front (ended_append (take end bytes) (take r (drop end bytes)) (omega (arith, l.some)) ∙ l.ended (omega arith));
    }
