-- The words of each item's text, in both layouts.
use Rattle.std.proofs.Common.{◌≡◌, ◌++◌, ◌<◌, ◌+◌, ◌^◌, ℕ, suc, Bool, true, false, List, [], ◌∷◌, length, codes, map, refl, sym, ap, ◌∙◌, arith}
use Rattle.std.specs.List.{fold, list_all}
use Rattle.std.specs.Prelude.{◌&&◌, pos, negsuc, nat_le, if◌then◌else◌}
use Rattle.std.specs.Fmt.{decimal, signed_decimal}
use Rattle.std.specs.Char.{is_ascii_digit}
use Rattle.std.proofs.lemmas.Grind.{common_steps}
use Rattle.std.proofs.lemmas.Bool.{and_parts, ltb-true}
use Rattle.std.proofs.lemmas.Bool.Decides.{nat_tests}
use Rattle.std.proofs.lemmas.Fmt.{digits_decimal, decimal_nonempty}
use mathlib.Core.List.{append_assoc, append-nil}
use Rattle.am_term.specs.Names.{is_fortran_name, is_fortran_byte, is_upper}
use Rattle.am_fortran.specs.Joined.{separated}
use Rattle.am_fortran.specs.Text.{line, with_commas, continued, with_list, operand_text}
use Rattle.am_fortran.specs.Well.{is_unit_text_byte, is_between, is_operand, fits_operand}
use Rattle.am_fortran.specs.Words.{Scan, scan_step, scan_start, in_quotes, in_words, is_unit_word_byte, with_word, words}
use Rattle.am_fortran.specs.declared.statement.Operand.{Operand}
use Rattle.am_fortran.specs.declared.statement.Operand.TheVariants as operand
use Rattle.am_fortran.proofs.Digits.{own}
use Rattle.am_fortran.proofs.Lists.{listed-joined, continued-joined}
use Rattle.am_fortran.proofs.Runs.{between, in_word, quoting, run_both, run_word, run_text, IsWord, IsGap, Words, run_joined}

weaker : (p q : ℕ → Bool) → ((b : ℕ) → p b ≡ true → q b ≡ true) → (xs : List ℕ) → list_all p xs ≡ true → list_all q xs ≡ true
weaker p q f [] h = refl
weaker p q f (b ∷ bs) h = let k = and_parts (p b) (list_all p bs) h in rw (f b k.0, weaker p q f bs k.1) refl

fortran_byte : (b : ℕ) → is_fortran_byte b ≡ true → is_unit_word_byte b ≡ true
fortran_byte b h = rw h refl

upper_byte : (b : ℕ) → is_upper b ≡ true → is_unit_word_byte b ≡ true
upper_byte b h = rw h refl

digit_byte : (b : ℕ) → is_ascii_digit b ≡ true → is_unit_word_byte b ≡ true
digit_byte b h = grind (arith, common_steps, nat_tests)

-- what is made of the bytes of words is read as it stands
as_it_stands : (x : List ℕ) → 0 < length x → list_all is_unit_word_byte x ≡ true → IsWord x x
as_it_stands x s h = record { some = s; run = λ done. run_word done [] x h }

pub name_word : (n : List ℕ) → is_fortran_name n ≡ true → IsWord n n
unfolding is_fortran_name
name_word [] h = absurd cc
name_word (b ∷ bs) h =
    let p = and_parts (is_upper b) (list_all is_fortran_byte bs && nat_le (length bs) 5) h in
    let q = and_parts (list_all is_fortran_byte bs) (nat_le (length bs) 5) p.1 in
    as_it_stands (b ∷ bs) (omega arith) (rw (upper_byte b p.0, weaker is_fortran_byte is_unit_word_byte fortran_byte bs q.0) refl)

pub decimal_word : (n : ℕ) → n < 2 ^ 64 → IsWord (decimal n) (decimal n)
decimal_word n h = as_it_stands (decimal n) (decimal_nonempty n h) (weaker is_ascii_digit is_unit_word_byte digit_byte (decimal n) (digits_decimal own n h))

minus_word : (n : ℕ) → n < 2 ^ 64 → IsWord (45 ∷ decimal n) (45 ∷ decimal n)
minus_word n h = as_it_stands (45 ∷ decimal n) (omega arith) (weaker is_ascii_digit is_unit_word_byte digit_byte (decimal n) (digits_decimal own n h))

open_quote : (done : List (List ℕ)) → fold scan_step (between done) (39 ∷ []) ≡ quoting done (39 ∷ [])
unfolding scan_step in_words
open_quote done = refl

close_quote : (done : List (List ℕ)) (w : List ℕ) → fold scan_step (quoting done w) (39 ∷ []) ≡ in_word done w
unfolding scan_step in_quotes
close_quote done w = refl

text_word : (t : List ℕ) → list_all is_unit_text_byte t ≡ true → IsWord (39 ∷ t ++ 39 ∷ []) (39 ∷ t)
text_word t h = record {
  some = omega arith;
  run = λ done. run_both (between done) (quoting done (39 ∷ t)) _ (39 ∷ t) (39 ∷ [])
      (run_both (between done) (quoting done (39 ∷ [])) _ (39 ∷ []) t (open_quote done) (run_text done (39 ∷ []) t h))
      (close_quote done (39 ∷ t));
}

abbrev pub operand_word : Operand → List ℕ
operand_word (operand.Name n) = n
operand_word (operand.Int z) = signed_decimal z
operand_word (operand.Text t) = 39 ∷ t

pub operand_is_word : (o : Operand) → is_operand o ≡ true → fits_operand o ≡ true → IsWord (operand_text o) (operand_word o)
operand_is_word (operand.Name n) h f = name_word n h
operand_is_word (operand.Int (pos n)) h f = decimal_word n (omega (arith, ltb-true n (2 ^ 63) f))
operand_is_word (operand.Int (negsuc n)) h f = minus_word (suc n) (omega (arith, ltb-true n (2 ^ 63) f))
operand_is_word (operand.Text t) h f = text_word t (and_parts (list_all is_unit_text_byte t) (is_between 1 32 (length t)) h).0

pub operands_are_words : (os : List Operand) → list_all is_operand os ≡ true → list_all fits_operand os ≡ true → Words (map operand_text os) (map operand_word os)
operands_are_words [] h f = tt
operands_are_words (o ∷ os) h f =
    let p = and_parts (is_operand o) (list_all is_operand os) h in
    let q = and_parts (fits_operand o) (list_all fits_operand os) f in
    (operand_is_word o p.0 q.0, operands_are_words os p.1 q.1)

pub names_are_words : (ns : List (List ℕ)) → list_all is_fortran_name ns ≡ true → Words ns ns
names_are_words [] h = tt
names_are_words (n ∷ ns) h =
    let p = and_parts (is_fortran_name n) (list_all is_fortran_name ns) h in
    (name_word n p.0, names_are_words ns p.1)

pub gap_comma : IsGap (codes ", ")
unfolding scan_step in_words
gap_comma = λ done w. refl

pub gap_lines : IsGap (codes "," ++ 10 ∷ codes "     . ")
unfolding scan_step in_words
gap_lines = λ done w. refl

pub gap_close : IsGap (codes ")" ++ 10 ∷ [])
unfolding scan_step in_words
gap_close = λ done w. refl

pub gap_end : IsGap (10 ∷ [])
unfolding scan_step in_words
gap_end = λ done w. refl

blanks : fold scan_step scan_start (codes "      ") ≡ scan_start
unfolding scan_step in_words
blanks = refl

next_line : (done : List (List ℕ)) → fold scan_step (between done) (10 ∷ [] ++ codes "     . ") ≡ between done
unfolding scan_step in_words
next_line done = refl

pub run_line : (s : List ℕ) (done : List (List ℕ)) (w : List ℕ) → fold scan_step scan_start s ≡ in_word done w → words (line s) ≡ with_word done w
unfolding words line
run_line s done w p = ap (λ (x : Scan). x.done)
    (run_both scan_start (in_word done w) (between (with_word done w)) (codes "      " ++ s) (10 ∷ [])
    (run_both scan_start scan_start (in_word done w) (codes "      ") s blanks p)
    (gap_end done w))

regroup_one : (six front l c e : List ℕ) → (six ++ ((front ++ l) ++ c)) ++ e ≡ (six ++ front) ++ (l ++ (c ++ e))
regroup_one six front l c e = simp append_assoc

regroup_many : (f n lead j c e : List ℕ) → (f ++ n) ++ (((lead ++ j) ++ c) ++ e) ≡ f ++ ((n ++ lead) ++ (j ++ (c ++ e)))
regroup_many f n lead j c e = simp append_assoc

run_front : (front : List ℕ) (ws : List (List ℕ)) → fold scan_step scan_start front ≡ between ws → fold scan_step scan_start (codes "      " ++ front) ≡ between ws
run_front front ws p = run_both scan_start scan_start (between ws) (codes "      ") front blanks p

in_one_line : (front : List ℕ) (ws xs ys : List (List ℕ)) → fold scan_step scan_start front ≡ between ws → Words xs ys → words (line (front ++ with_commas xs ++ codes ")")) ≡ ws ++ ys
unfolding words line
in_one_line front ws xs ys p u = rw (regroup_one (codes "      ") front (with_commas xs) (codes ")") (10 ∷ []), listed-joined xs)
    (ap (λ (x : Scan). x.done) (run_both scan_start (between ws) (between (ws ++ ys)) (codes "      " ++ front) (separated (codes ", ") xs ++ (codes ")" ++ 10 ∷ [])) (run_front front ws p)
    (run_joined (codes ", ") (codes ")" ++ 10 ∷ []) gap_comma gap_close xs ys u ws)))

in_many_lines : (front : List ℕ) (ws xs ys : List (List ℕ)) → fold scan_step scan_start front ≡ between ws → Words xs ys → words (line front ++ continued xs) ≡ ws ++ ys
unfolding words line continued
in_many_lines front ws [] [] p u = ap words (append-nil (line front))
    ∙ ap (λ (x : Scan). x.done) (run_both scan_start (between ws) (between ws) (codes "      " ++ front) (10 ∷ []) (run_front front ws p) (gap_end ws []))
    ∙ sym (append-nil ws)
in_many_lines front ws [] (y ∷ ys) p u = absurd u
in_many_lines front ws (x ∷ xs) [] p u = absurd u
in_many_lines front ws (x ∷ xs) (y ∷ ys) p u =
    let joint = separated (codes "," ++ 10 ∷ codes "     . ") (x ∷ xs) in
    ap (λ (z : List ℕ). words (line front ++ z)) (continued-joined x xs)
    ∙ ap words (regroup_many (codes "      " ++ front) (10 ∷ []) (codes "     . ") joint (codes ")") (10 ∷ []))
    ∙ ap (λ (z : Scan). z.done) (run_both scan_start (between ws) (between (ws ++ y ∷ ys)) (codes "      " ++ front) _ (run_front front ws p)
    (run_both (between ws) (between ws) (between (ws ++ y ∷ ys)) (10 ∷ [] ++ codes "     . ") (joint ++ (codes ")" ++ 10 ∷ [])) (next_line ws)
    (run_joined (codes "," ++ 10 ∷ codes "     . ") (codes ")" ++ 10 ∷ []) gap_lines gap_close (x ∷ xs) (y ∷ ys) u ws)))

either : (t : Bool) (a b : List ℕ) (ws : List (List ℕ)) → words a ≡ ws → words b ≡ ws → words (if t then a else b) ≡ ws
either true a b ws p q = p
either false a b ws p q = q

pub with_list_words : (front : List ℕ) (ws xs ys : List (List ℕ)) → fold scan_step scan_start front ≡ between ws → Words xs ys → words (with_list front xs) ≡ ws ++ ys
unfolding with_list
with_list_words front ws xs ys p u = either (nat_le (6 + length (front ++ with_commas xs ++ codes ")")) 72) _ _ (ws ++ ys) (in_one_line front ws xs ys p u) (in_many_lines front ws xs ys p u)
