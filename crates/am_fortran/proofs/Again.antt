-- The item that the words of an item's text may spell is that item.
use Rattle.std.proofs.Common.{◌≡◌, ◌++◌, ◌<◌, ◌≤◌, ◌^◌, ℕ, suc, true, false, List, [], ◌∷◌, length, codes, map, refl, sym, ap, ◌∙◌, arith}
use Rattle.std.specs.List.{fold, list_all}
use Rattle.std.specs.Prelude.{◌&&◌, ◌==◌, pos, negsuc, nat_le}
use Rattle.std.specs.Fmt.{decimal}
use Rattle.std.specs.Char.{is_ascii_digit}
use Rattle.std.specs.Str.{bytes_eq}
use Rattle.std.proofs.lemmas.Grind.{common_steps}
use Rattle.std.proofs.lemmas.Bool.{and_parts, ltb-true, leb-true, lt-ltb, le-leb}
use Rattle.std.proofs.lemmas.Bool.Decides.{nat_tests}
use Rattle.std.proofs.lemmas.Fmt.{digits_decimal, digits_value-decimal, decimal_nonempty}
use Rattle.am_term.specs.Names.{is_fortran_name, is_fortran_byte, is_upper}
use mathlib.Core.List.{append_assoc}
use Rattle.am_fortran.specs.Text.{line, declaration_text, statement_text, head_text, operand_text}
use Rattle.am_fortran.specs.Well.{is_between, is_type, is_statement, fits_statement, is_operand, fits_operand}
use Rattle.am_fortran.specs.Words.{scan_step, scan_start, in_words, with_word, words}
use Rattle.am_fortran.specs.Guess.{add_digits, small_number, integer_of, operand_of, assigned, integer_type_of, double_of, guessed_declaration, guessed}
use Rattle.am_fortran.specs.Items.{is_item, item_text}
use Rattle.am_fortran.specs.declared.item.Item.{Item}
use Rattle.am_fortran.specs.declared.item.Item.TheVariants.{Head, Declaration, Executable, End}
use Rattle.am_fortran.specs.declared.statement.FortranType.{FortranType}
use Rattle.am_fortran.specs.declared.statement.FortranType.TheVariants.{Double, Integer, Logical, Char, CharAny, DoubleVec, DoubleMat, IntegerVec}
use Rattle.am_fortran.specs.declared.statement.Operand.{Operand}
use Rattle.am_fortran.specs.declared.statement.Operand.TheVariants as operand
use Rattle.am_fortran.specs.declared.statement.Statement.{Statement}
use Rattle.am_fortran.specs.declared.statement.Statement.TheVariants.{Call, Assign, Apply}
use Rattle.am_fortran.proofs.Digits.{own}
use Rattle.am_fortran.proofs.Runs.{between, in_word, run_both, IsWord, IsGap}
use Rattle.am_fortran.proofs.WordsOf.{name_word, decimal_word, operand_word, operand_is_word, operands_are_words, names_are_words, run_line, with_list_words}

-- numbers

pub number_again : (n : ℕ) → n < 2 ^ 32 → small_number (decimal n) ≡ n
unfolding small_number
number_again n h =
    let v : add_digits 0 (decimal n) ≡ n = digits_value-decimal own n (omega arith) in
    let d : list_all is_ascii_digit (decimal n) ≡ true = digits_decimal own n (omega arith) in
    rw (d, v, lt-ltb n (2 ^ 32) h) refl

-- a text of digits begins with a digit
begins_with_digit : (ds : List ℕ) → 0 < length ds → list_all is_ascii_digit ds ≡ true → (P : List ℕ → Type 0) → ((b : ℕ) (bs : List ℕ) → is_ascii_digit b ≡ true → list_all is_ascii_digit (b ∷ bs) ≡ true → P (b ∷ bs)) → P ds
begins_with_digit [] s h P f = absurd (omega arith)
begins_with_digit (b ∷ bs) s h P f = f b bs (and_parts (is_ascii_digit b) (list_all is_ascii_digit bs) h).0 h

digit_not : (b c : ℕ) → is_ascii_digit b ≡ true → is_ascii_digit c ≡ false → (b == c) ≡ false
digit_not b c h k = grind (arith, common_steps, nat_tests)

plain_integer : (ds : List ℕ) (n : ℕ) → n < 2 ^ 63 → 0 < length ds → list_all is_ascii_digit ds ≡ true → add_digits 0 ds ≡ n → operand_of ds ≡ operand.Int (pos n)
unfolding operand_of integer_of
plain_integer [] n h s d v = absurd (omega arith)
plain_integer (b ∷ bs) n h s d v =
    let p = and_parts (is_ascii_digit b) (list_all is_ascii_digit bs) d in
    rw (digit_not b 39 p.0 refl, p.0, digit_not b 45 p.0 refl) (rw (p.1, v, lt-ltb n (2 ^ 63) h) refl)

minus_integer : (ds : List ℕ) (n : ℕ) → suc n ≤ 2 ^ 63 → list_all is_ascii_digit ds ≡ true → add_digits 0 ds ≡ suc n → operand_of (45 ∷ ds) ≡ operand.Int (negsuc n)
unfolding operand_of integer_of
minus_integer ds n h d v = rw (d, v, le-leb (suc n) (2 ^ 63) h) refl

pub operand_again : (o : Operand) → is_operand o ≡ true → fits_operand o ≡ true → operand_of (operand_word o) ≡ o
unfolding operand_of is_fortran_name
operand_again (operand.Name []) h f = absurd cc
operand_again (operand.Name (b ∷ bs)) h f =
    let p = and_parts (is_upper b) (list_all is_fortran_byte bs && nat_le (length bs) 5) h in
    let q : (b == 39) ≡ false = grind (arith, common_steps, nat_tests) in
    let r : is_ascii_digit b ≡ false = grind (arith, common_steps, nat_tests) in
    let s : (b == 45) ≡ false = grind (arith, common_steps, nat_tests) in
    rw (q, r, s) refl
operand_again (operand.Int (pos n)) h f =
    let small : n < 2 ^ 63 = ltb-true n (2 ^ 63) f in
    plain_integer (decimal n) n small (decimal_nonempty n (omega arith)) (digits_decimal own n (omega arith)) (digits_value-decimal own n (omega arith))
operand_again (operand.Int (negsuc n)) h f =
    let small : n < 2 ^ 63 = ltb-true n (2 ^ 63) f in
    minus_integer (decimal (suc n)) n (omega arith) (digits_decimal own (suc n) (omega arith)) (digits_value-decimal own (suc n) (omega arith))
operand_again (operand.Text t) h f = refl

pub operands_again : (os : List Operand) → list_all is_operand os ≡ true → list_all fits_operand os ≡ true → map operand_of (map operand_word os) ≡ os
operands_again [] h f = refl
operands_again (o ∷ os) h f =
    let p = and_parts (is_operand o) (list_all is_operand os) h in
    let q = and_parts (fits_operand o) (list_all fits_operand os) f in
    rw (operand_again o p.0 q.0, operands_again os p.1 q.1) refl

-- a name is none of the signs
name_not : (n : List ℕ) (c : ℕ) → is_fortran_name n ≡ true → is_upper c ≡ false → bytes_eq n (c ∷ []) ≡ false
unfolding is_fortran_name
name_not [] c h k = absurd cc
name_not (b ∷ bs) c h k =
    let p = and_parts (is_upper b) (list_all is_fortran_byte bs && nat_le (length bs) 5) h in
    let q : (b == c) ≡ false = grind (arith, common_steps, nat_tests) in
    rw q refl

decimal_not : (n c : ℕ) → n < 2 ^ 64 → is_ascii_digit c ≡ false → bytes_eq (decimal n) (c ∷ []) ≡ false
decimal_not n c h k = begins_with_digit (decimal n) (decimal_nonempty n h) (digits_decimal own n h) (λ ds. bytes_eq ds (c ∷ []) ≡ false) (λ b bs d all. rw (digit_not b c d k) refl)

-- runs

opens : (done : List (List ℕ)) (w : List ℕ) → 0 < length w → fold scan_step (in_word done w) (codes "(") ≡ between (done ++ w ∷ [] ++ codes "(" ∷ [])
unfolding scan_step in_words
opens done [] h = absurd (omega arith)
opens done (b ∷ bs) h = refl

pub some_word : (done : List (List ℕ)) (w : List ℕ) → 0 < length w → with_word done w ≡ done ++ w ∷ []
some_word done [] h = absurd (omega arith)
some_word done (b ∷ bs) h = refl

-- first words that end with a blank, a name and a parenthesis
run_opening : (lead : List ℕ) (ws : List (List ℕ)) (n : List ℕ) → fold scan_step scan_start lead ≡ between ws → IsWord n n → fold scan_step scan_start (lead ++ n ++ codes "(") ≡ between (ws ++ n ∷ [] ++ codes "(" ∷ [])
run_opening lead ws n p w = run_both scan_start (in_word ws n) _ (lead ++ n) (codes "(") (run_both scan_start (between ws) (in_word ws n) lead n p (w.run ws)) (opens ws n w.some)

lead_head : fold scan_step scan_start (codes "SUBROUTINE ") ≡ between (codes "SUBROUTINE" ∷ [])
unfolding scan_step in_words
lead_head = refl

lead_call : fold scan_step scan_start (codes "CALL ") ≡ between (codes "CALL" ∷ [])
unfolding scan_step in_words
lead_call = refl

equals : (done : List (List ℕ)) (w : List ℕ) → 0 < length w → fold scan_step (in_word done w) (codes " = ") ≡ between (done ++ w ∷ [] ++ codes "=" ∷ [])
unfolding scan_step in_words
equals done [] h = absurd (omega arith)
equals done (b ∷ bs) h = refl

run_target : (t : List ℕ) → is_fortran_name t ≡ true → fold scan_step scan_start (t ++ codes " = ") ≡ between (t ∷ codes "=" ∷ [])
run_target t h = let w = name_word t h in run_both scan_start (in_word [] t) _ t (codes " = ") (w.run []) (equals [] t w.some)

pub words_end : words (line (codes "END")) ≡ codes "END" ∷ []
unfolding words line scan_step in_words
words_end = refl

-- declarations

run_name : (lead : List ℕ) (ws : List (List ℕ)) (n : List ℕ) → fold scan_step scan_start lead ≡ between ws → is_fortran_name n ≡ true → fold scan_step scan_start (lead ++ n) ≡ in_word ws n
run_name lead ws n p h = run_both scan_start (between ws) (in_word ws n) lead n p ((name_word n h).run ws)

gap_close : IsGap (codes ")")
unfolding scan_step in_words
gap_close = λ done w. refl

gap_comma : IsGap (codes ",")
unfolding scan_step in_words
gap_comma = λ done w. refl

gap_blank : IsGap (codes " ")
unfolding scan_step in_words
gap_blank = λ done w. refl

-- a number that something ends
run_number : (done : List (List ℕ)) (m : ℕ) (end : List ℕ) → m < 2 ^ 64 → IsGap end → fold scan_step (between done) (decimal m ++ end) ≡ between (done ++ decimal m ∷ [])
run_number done m end h g = let w = decimal_word m h in
    run_both (between done) (in_word done (decimal m)) _ (decimal m) end (w.run done) (g done (decimal m)) ∙ ap between (some_word done (decimal m) w.some)

-- behind a name, one extent and two
run_vector : (ws : List (List ℕ)) (n : List ℕ) (m : ℕ) → is_fortran_name n ≡ true → m < 2 ^ 64
    → fold scan_step (in_word ws n) (codes "(" ++ decimal m ++ codes ")") ≡ between (ws ++ n ∷ [] ++ codes "(" ∷ [] ++ decimal m ∷ [])
run_vector ws n m h k = let w = name_word n h in
    ap (fold scan_step (in_word ws n)) (append_assoc (codes "(") (decimal m) (codes ")"))
    ∙ run_both (in_word ws n) (between (ws ++ n ∷ [] ++ codes "(" ∷ [])) _ (codes "(") (decimal m ++ codes ")") (opens ws n w.some) (run_number _ m (codes ")") k gap_close)

matrix_regroup : (o r c s e : List ℕ) → o ++ r ++ c ++ s ++ e ≡ o ++ ((r ++ c) ++ (s ++ e))
matrix_regroup o r c s e = simp append_assoc

run_matrix : (ws : List (List ℕ)) (n : List ℕ) (m k : ℕ) → is_fortran_name n ≡ true → m < 2 ^ 64 → k < 2 ^ 64
    → fold scan_step (in_word ws n) (codes "(" ++ decimal m ++ codes "," ++ decimal k ++ codes ")") ≡ between (ws ++ n ∷ [] ++ codes "(" ∷ [] ++ decimal m ∷ [] ++ decimal k ∷ [])
run_matrix ws n m k h p q = let w = name_word n h in
    ap (fold scan_step (in_word ws n)) (matrix_regroup (codes "(") (decimal m) (codes ",") (decimal k) (codes ")"))
    ∙ run_both (in_word ws n) (between (ws ++ n ∷ [] ++ codes "(" ∷ [])) _ (codes "(") ((decimal m ++ codes ",") ++ (decimal k ++ codes ")")) (opens ws n w.some)
    (run_both _ (between (ws ++ n ∷ [] ++ codes "(" ∷ [] ++ decimal m ∷ [])) _ (decimal m ++ codes ",") (decimal k ++ codes ")") (run_number _ m (codes ",") p gap_comma) (run_number _ k (codes ")") q gap_close))

lead_double : fold scan_step scan_start (codes "DOUBLE PRECISION ") ≡ between (codes "DOUBLE" ∷ codes "PRECISION" ∷ [])
unfolding scan_step in_words
lead_double = refl

lead_integer : fold scan_step scan_start (codes "INTEGER ") ≡ between (codes "INTEGER" ∷ [])
unfolding scan_step in_words
lead_integer = refl

lead_logical : fold scan_step scan_start (codes "LOGICAL ") ≡ between (codes "LOGICAL" ∷ [])
unfolding scan_step in_words
lead_logical = refl

lead_any : fold scan_step scan_start (codes "CHARACTER*(*) ") ≡ between (codes "CHARACTER" ∷ codes "(" ∷ [])
unfolding scan_step in_words
lead_any = refl

lead_character : fold scan_step scan_start (codes "CHARACTER*") ≡ between (codes "CHARACTER" ∷ [])
unfolding scan_step in_words
lead_character = refl

lead_length : (m : ℕ) → m < 2 ^ 64 → fold scan_step scan_start (codes "CHARACTER*" ++ decimal m ++ codes " ") ≡ between (codes "CHARACTER" ∷ decimal m ∷ [])
lead_length m h = ap (fold scan_step scan_start) (append_assoc (codes "CHARACTER*") (decimal m) (codes " "))
    ∙ run_both scan_start (between (codes "CHARACTER" ∷ [])) _ (codes "CHARACTER*") (decimal m ++ codes " ") lead_character (run_number _ m (codes " ") h gap_blank)

-- the words of a declaration whose lead, name and extents are read so
declaration_line : (lead n extents : List ℕ) (ws : List (List ℕ)) (done : List (List ℕ)) (w : List ℕ) → fold scan_step scan_start lead ≡ between ws → is_fortran_name n ≡ true → fold scan_step (in_word ws n) extents ≡ in_word done w
    → words (line (lead ++ n ++ extents)) ≡ with_word done w
declaration_line lead n extents ws done w p h e = run_line (lead ++ n ++ extents) done w (run_both scan_start (in_word ws n) (in_word done w) (lead ++ n) extents (run_name lead ws n p h) e)

declaration_plain : (lead n : List ℕ) (ws : List (List ℕ)) → fold scan_step scan_start lead ≡ between ws → is_fortran_name n ≡ true → words (line (lead ++ n ++ [])) ≡ ws ++ n ∷ []
declaration_plain lead n ws p h = declaration_line lead n [] ws ws n p h refl ∙ some_word ws n (name_word n h).some

abbrev Again : Item → Type 0
Again i = guessed (words (item_text i)) ≡ i

between_high : (least most n : ℕ) → is_between least most n ≡ true → n ≤ most
between_high least most n h = leb-true n most (and_parts (nat_le least n) (nat_le n most) h).1

small : (most n : ℕ) → most < 2 ^ 32 → is_between 1 most n ≡ true → n < 2 ^ 32
small most n k h = omega (arith, between_high 1 most n h)

type_again : (ty : FortranType) (n : List ℕ) → is_type ty ≡ true → is_fortran_name n ≡ true → Again (Declaration (record { ty = ty; name = n }))
unfolding item_text declaration_text guessed guessed_declaration double_of integer_type_of
type_again Double n t h = ap guessed (declaration_plain (codes "DOUBLE PRECISION ") n _ lead_double h)
type_again Integer n t h = ap guessed (declaration_plain (codes "INTEGER ") n _ lead_integer h) ∙ rw (name_not n 61 h refl) refl
type_again Logical n t h = ap guessed (declaration_plain (codes "LOGICAL ") n _ lead_logical h) ∙ rw (name_not n 61 h refl) refl
type_again (Char m) n t h =
    let s = small 1024 m (omega arith) t in
    ap guessed (declaration_plain (codes "CHARACTER*" ++ decimal m ++ codes " ") n _ (lead_length m (omega arith)) h)
    ∙ rw (decimal_not m 61 (omega arith) refl, decimal_not m 40 (omega arith) refl, number_again m s) refl
type_again CharAny n t h = ap guessed (declaration_plain (codes "CHARACTER*(*) ") n _ lead_any h)
type_again (DoubleVec m) n t h =
    let s = small 1000 m (omega arith) t in
    ap guessed (declaration_line (codes "DOUBLE PRECISION ") n (codes "(" ++ decimal m ++ codes ")") _ _ [] lead_double h (run_vector _ n m h (omega arith)))
    ∙ rw (number_again m s) refl
type_again (DoubleMat m k) n t h =
    let p = and_parts (is_between 1 1000 m) (is_between 1 1000 k) t in
    let s = small 1000 m (omega arith) p.0 in
    let r = small 1000 k (omega arith) p.1 in
    ap guessed (declaration_line (codes "DOUBLE PRECISION ") n (codes "(" ++ decimal m ++ codes "," ++ decimal k ++ codes ")") _ _ [] lead_double h (run_matrix _ n m k h (omega arith) (omega arith)))
    ∙ rw (number_again m s, number_again k r) refl
type_again (IntegerVec m) n t h =
    let s = small 1000 m (omega arith) t in
    ap guessed (declaration_line (codes "INTEGER ") n (codes "(" ++ decimal m ++ codes ")") _ _ [] lead_integer h (run_vector _ n m h (omega arith)))
    ∙ rw (name_not n 61 h refl, number_again m s) refl

-- statements

assign_again : (t : List ℕ) (o : Operand) → is_fortran_name t ≡ true → is_operand o ≡ true → fits_operand o ≡ true → Again (Executable (Assign t o))
unfolding item_text statement_text guessed assigned
assign_again t o h k f =
    let w = operand_is_word o k f in
    ap guessed (run_line (t ++ codes " = " ++ operand_text o) (t ∷ codes "=" ∷ []) (operand_word o)
    (run_both scan_start (between (t ∷ codes "=" ∷ [])) _ (t ++ codes " = ") (operand_text o) (run_target t h) (w.run _))
    ∙ some_word _ (operand_word o) w.some)
    ∙ rw (operand_again o k f) refl

call_again : (r : List ℕ) (os : List Operand) → is_fortran_name r ≡ true → list_all is_operand os ≡ true → list_all fits_operand os ≡ true → Again (Executable (Call r os))
unfolding item_text statement_text guessed
call_again r os h k f =
    ap guessed (with_list_words (codes "CALL " ++ r ++ codes "(") _ (map operand_text os) (map operand_word os) (run_opening (codes "CALL ") _ r lead_call (name_word r h)) (operands_are_words os k f))
    ∙ rw (name_not r 61 h refl, operands_again os k f) refl

apply_again : (t g : List ℕ) (os : List Operand) → is_fortran_name t ≡ true → is_fortran_name g ≡ true → list_all is_operand os ≡ true → list_all fits_operand os ≡ true → Again (Executable (Apply t g os))
unfolding item_text statement_text guessed assigned
apply_again t g os h k l f =
    ap guessed (with_list_words (t ++ codes " = " ++ g ++ codes "(") _ (map operand_text os) (map operand_word os) (run_opening (t ++ codes " = ") _ g (run_target t h) (name_word g k)) (operands_are_words os l f))
    ∙ rw (operands_again os l f) refl

head_again : (n : List ℕ) (ds : List (List ℕ)) → is_fortran_name n ≡ true → list_all is_fortran_name ds ≡ true → Again (Head n ds)
unfolding item_text head_text guessed
head_again n ds h k =
    ap guessed (with_list_words (codes "SUBROUTINE " ++ n ++ codes "(") _ ds ds (run_opening (codes "SUBROUTINE ") _ n lead_head (name_word n h)) (names_are_words ds k))
    ∙ rw (name_not n 61 h refl) refl

statement_again : (s : Statement) → is_statement s ≡ true → fits_statement s ≡ true → Again (Executable s)
unfolding is_statement fits_statement
statement_again (Call r os) h f =
    let p = and_parts (is_fortran_name r) (list_all is_operand os && is_between 1 18 (length os)) h in
    let q = and_parts (list_all is_operand os) (is_between 1 18 (length os)) p.1 in
    call_again r os p.0 q.0 f
statement_again (Assign t o) h f = let p = and_parts (is_fortran_name t) (is_operand o) h in assign_again t o p.0 p.1 f
statement_again (Apply t g os) h f =
    let p = and_parts (is_fortran_name t) (is_fortran_name g && (list_all is_operand os && nat_le (length os) 12)) h in
    let q = and_parts (is_fortran_name g) (list_all is_operand os && nat_le (length os) 12) p.1 in
    let r = and_parts (list_all is_operand os) (nat_le (length os) 12) q.1 in
    apply_again t g os p.0 q.0 r.0 f

end_again : Again End
unfolding item_text guessed
end_again = ap guessed words_end

pub item_again : (i : Item) → is_item i ≡ true → guessed (words (item_text i)) ≡ i
unfolding is_item
item_again (Head n ds) h =
    let p = and_parts (is_fortran_name n) (list_all is_fortran_name ds && is_between 1 18 (length ds)) h in
    let q = and_parts (list_all is_fortran_name ds) (is_between 1 18 (length ds)) p.1 in
    head_again n ds p.0 q.0
item_again (Declaration d) h = let p = and_parts (is_type d.ty) (is_fortran_name d.name) h in type_again d.ty d.name p.0 p.1
item_again (Executable s) h = let p = and_parts (is_statement s) (fits_statement s) h in statement_again s p.0 p.1
item_again End h = end_again

-- no two items have one text
pub item_injective : (i j : Item) → is_item i ≡ true → is_item j ≡ true → item_text i ≡ item_text j → i ≡ j
item_injective i j h k e = sym (item_again i h) ∙ ap (λ (t : List ℕ). guessed (words t)) e ∙ item_again j k
