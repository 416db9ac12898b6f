-- The lines of each item's text: none is longer than 72 columns or begins with another byte than a
-- blank, and one statement has at most 18 continuation lines.
use Rattle.std.proofs.Common.{◌≡◌, ◌++◌, ◌<◌, ◌≤◌, ◌+◌, ◌^◌, ℕ, suc, Bool, true, false, List, [], ◌∷◌, length, length-append, get_or, codes, map, refl, sym, ap, arith}
use Rattle.std.specs.List.{flat_map, list_all}
use Rattle.std.specs.Prelude.{◌&&◌, ◌==◌, not, pos, negsuc, nat_le, if◌then◌else◌}
use Rattle.std.specs.Fmt.{decimal}
use Rattle.std.specs.Char.{is_ascii_digit}
use Rattle.std.proofs.lemmas.Grind.{common_steps}
use Rattle.std.proofs.lemmas.Bool.{and_parts, ne_eqb, ltb-true, leb-true}
use Rattle.std.proofs.lemmas.Bool.Decides.{nat_tests}
use Rattle.std.proofs.lemmas.List.Folds.{list_all-append}
use Rattle.std.proofs.lemmas.Fmt.{digits_decimal, length-decimal-le}
use Rattle.std.proofs.lemmas.List.{length-map}
use mathlib.Core.List.{append-nil}
use Rattle.am_term.specs.Names.{is_fortran_name, is_fortran_byte, is_upper}
use Rattle.am_fortran.specs.Text.{line, with_commas, continued, with_list, type_text, extents_text, declaration_text, statement_text, head_text, operand_text}
use Rattle.am_fortran.specs.Well.{is_between, is_unit_text_byte, is_type, is_declaration, is_statement, fits_statement, is_operand, fits_operand}
use Rattle.am_fortran.specs.Items.{is_item, item_text}
use Rattle.am_fortran.specs.Lines.{is_continuation}
use Rattle.am_fortran.specs.declared.item.Item.{Item}
use Rattle.am_fortran.specs.declared.item.Item.TheVariants.{Head, Declaration, Executable, End}
use Rattle.am_fortran.specs.declared.statement.FortranType.{FortranType}
use Rattle.am_fortran.specs.declared.statement.FortranType.TheVariants.{Double, Integer, Logical, Char, CharAny, DoubleVec, DoubleMat, IntegerVec}
use Rattle.am_fortran.specs.declared.statement.Decl.{Decl}
use Rattle.am_fortran.specs.declared.statement.Operand.{Operand}
use Rattle.am_fortran.specs.declared.statement.Operand.TheVariants as operand
use Rattle.am_fortran.specs.declared.statement.Statement.{Statement}
use Rattle.am_fortran.specs.declared.statement.Statement.TheVariants.{Call, Assign, Apply}
use Rattle.am_fortran.proofs.Digits.{own}
use Rattle.am_fortran.proofs.Grouping.{is_inside, whole}

-- at most this many bytes, none of which ends a line
pub record Piece (most : ℕ) (x : List ℕ) : Type 0 where
  pub inside : list_all is_inside x ≡ true
  pub short : length x ≤ most

both : (m n : ℕ) (a b : List ℕ) → Piece m a → Piece n b → Piece (m + n) (a ++ b)
both m n a b p q = record {
  inside = rw (list_all-append is_inside a b, p.inside, q.inside) refl;
  short = omega (arith, length-append {A = ℕ}, p.short, q.short);
}

inside_both : (a b : List ℕ) → list_all is_inside a ≡ true → list_all is_inside b ≡ true → list_all is_inside (a ++ b) ≡ true
inside_both a b p q = rw (list_all-append is_inside a b, p, q) refl

weaker : (p q : ℕ → Bool) → ((b : ℕ) → p b ≡ true → q b ≡ true) → (xs : List ℕ) → list_all p xs ≡ true → list_all q xs ≡ true
weaker p q f [] h = refl
weaker p q f (b ∷ bs) h = let k = and_parts (p b) (list_all p bs) h in rw (f b k.0, weaker p q f bs k.1) refl

inside_from : (b : ℕ) → 10 < b → is_inside b ≡ true
inside_from b h = rw (ne_eqb b 10 (λ e. absurd (omega (arith, e)))) refl

fortran_inside : (b : ℕ) → is_fortran_byte b ≡ true → is_inside b ≡ true
fortran_inside b h = inside_from b (grind (arith, common_steps, nat_tests))

upper_inside : (b : ℕ) → is_upper b ≡ true → is_inside b ≡ true
upper_inside b h = inside_from b (grind (arith, common_steps, nat_tests))

digit_inside : (b : ℕ) → is_ascii_digit b ≡ true → is_inside b ≡ true
digit_inside b h = inside_from b (grind (arith, common_steps, nat_tests))

text_inside : (b : ℕ) → is_unit_text_byte b ≡ true → is_inside b ≡ true
text_inside b h =
    let p = and_parts (is_between 32 126 b) (not (b == 34) && not (b == 39)) h in
    let q = and_parts (nat_le 32 b) (nat_le b 126) p.0 in
    inside_from b (omega (arith, leb-true 32 b q.0))

pub name_piece : (n : List ℕ) → is_fortran_name n ≡ true → Piece 6 n
unfolding is_fortran_name
name_piece [] h = absurd cc
name_piece (b ∷ bs) h =
    let p = and_parts (is_upper b) (list_all is_fortran_byte bs && nat_le (length bs) 5) h in
    let q = and_parts (list_all is_fortran_byte bs) (nat_le (length bs) 5) p.1 in
    record {
      inside = rw (upper_inside b p.0, weaker is_fortran_byte is_inside fortran_inside bs q.0) refl;
      short = omega (arith, leb-true (length bs) 5 q.1);
    }

decimal_piece : (k n : ℕ) → 0 < k → n < 10 ^ k → n < 2 ^ 64 → Piece k (decimal n)
decimal_piece k n z s h = record {
  inside = weaker is_ascii_digit is_inside digit_inside (decimal n) (digits_decimal own n h);
  short = length-decimal-le k n z s h;
}

pub operand_piece : (o : Operand) → is_operand o ≡ true → fits_operand o ≡ true → Piece 34 (operand_text o)
operand_piece (operand.Name n) h f = let p = name_piece n h in record { inside = p.inside; short = omega (arith, p.short) }
operand_piece (operand.Int (pos n)) h f =
    let s = ltb-true n (2 ^ 63) f in
    let p = decimal_piece 19 n (omega arith) (omega arith) (omega arith) in
    record { inside = p.inside; short = omega (arith, p.short) }
operand_piece (operand.Int (negsuc n)) h f =
    let s = ltb-true n (2 ^ 63) f in
    let p = decimal_piece 19 (suc n) (omega arith) (omega arith) (omega arith) in
    record { inside = p.inside; short = omega (arith, p.short) }
operand_piece (operand.Text t) h f =
    let p = and_parts (list_all is_unit_text_byte t) (is_between 1 32 (length t)) h in
    let q = and_parts (nat_le 1 (length t)) (nat_le (length t) 32) p.1 in
    let most = leb-true (length t) 32 q.1 in
    let added = length-append t (39 ∷ []) in
    record {
      inside = inside_both t (39 ∷ []) (weaker is_unit_text_byte is_inside text_inside t p.0) refl;
      short = omega (arith, most, added);
    }

abbrev pub Pieces : ℕ → List (List ℕ) → Type 0
Pieces most [] = Unit {0}
Pieces most (x ∷ xs) = Piece most x × Pieces most xs

pub operand_pieces : (os : List Operand) → list_all is_operand os ≡ true → list_all fits_operand os ≡ true → Pieces 34 (map operand_text os)
operand_pieces [] h f = tt
operand_pieces (o ∷ os) h f =
    let p = and_parts (is_operand o) (list_all is_operand os) h in
    let q = and_parts (fits_operand o) (list_all fits_operand os) f in
    (operand_piece o p.0 q.0, operand_pieces os p.1 q.1)

pub name_pieces : (ns : List (List ℕ)) → list_all is_fortran_name ns ≡ true → Pieces 34 ns
name_pieces [] h = tt
name_pieces (n ∷ ns) h =
    let p = and_parts (is_fortran_name n) (list_all is_fortran_name ns) h in
    let q = name_piece n p.0 in
    (record { inside = q.inside; short = omega (arith, q.short) }, name_pieces ns p.1)

-- a line of a statement
pub record Row (l : List ℕ) : Type 0 where
  pub inside : list_all is_inside l ≡ true
  pub short : length l ≤ 72
  pub blank : get_or l 0 0 ≡ 32

abbrev pub Rows : List (List ℕ) → Type 0
Rows [] = Unit {0}
Rows (l ∷ ls) = Row l × Rows ls

-- lines that are ended, as bytes
abbrev pub made : List (List ℕ) → List ℕ
made ls = flat_map (λ l. l ++ 10 ∷ []) ls

-- what an item's text is made of: a line and its continuation lines
pub record IsStatement (text : List ℕ) : Type 0 where
  pub first : List ℕ
  pub more : List (List ℕ)
  pub is : text ≡ made (first ∷ more)
  pub row : Row first
  pub rows : Rows more
  pub begins : is_continuation (whole first) ≡ false
  pub goes : list_all is_continuation (map whole more) ≡ true
  pub few : length more ≤ 18

one_line : (s : List ℕ) → list_all is_inside s ≡ true → length s ≤ 66 → IsStatement (line s)
unfolding line
one_line s h k = record {
  first = codes "      " ++ s;
  more = [];
  is = sym (append-nil (codes "      " ++ s ++ 10 ∷ []));
  row = record { inside = h; short = omega arith; blank = refl };
  rows = tt;
  begins = refl;
  goes = refl;
  few = omega arith;
}

pub piece_line : (n : ℕ) (s : List ℕ) → n ≤ 66 → Piece n s → IsStatement (line s)
piece_line n s h p = one_line s p.inside (omega (arith, p.short))

-- the continuation lines of a list
continuation_lines : List (List ℕ) → List (List ℕ)
continuation_lines [] = []
continuation_lines (x ∷ []) = (codes "     . " ++ x ++ codes ")") ∷ []
continuation_lines (x ∷ y ∷ ys) = (codes "     . " ++ x ++ codes ",") ∷ continuation_lines (y ∷ ys)

continued_made : (xs : List (List ℕ)) → continued xs ≡ made (continuation_lines xs)
unfolding continued continuation_lines
continued_made [] = refl
continued_made (x ∷ []) = sym (append-nil (codes "     . " ++ x ++ codes ")" ++ 10 ∷ []))
continued_made (x ∷ y ∷ ys) = ap (λ (z : List ℕ). codes "     . " ++ x ++ codes "," ++ 10 ∷ [] ++ z) (continued_made (y ∷ ys))

length_lines : (xs : List (List ℕ)) → length (continuation_lines xs) ≡ length xs
unfolding continuation_lines
length_lines [] = refl
length_lines (x ∷ []) = refl
length_lines (x ∷ y ∷ ys) = ap suc (length_lines (y ∷ ys))

lines_go_on : (xs : List (List ℕ)) → list_all is_continuation (map whole (continuation_lines xs)) ≡ true
unfolding continuation_lines
lines_go_on [] = refl
lines_go_on (x ∷ []) = refl
lines_go_on (x ∷ y ∷ ys) = lines_go_on (y ∷ ys)

member_row : (x end : List ℕ) → Piece 34 x → Piece 1 end → Row (codes "     . " ++ x ++ end)
member_row x end p q =
    let r = both 34 1 x end p q in
    let s = r.short in
    record { inside = r.inside; short = omega (arith, s); blank = refl }

close_piece : Piece 1 (codes ")")
close_piece = record { inside = refl; short = omega arith }

comma_piece : Piece 1 (codes ",")
comma_piece = record { inside = refl; short = omega arith }

rows_of : (xs : List (List ℕ)) → Pieces 34 xs → Rows (continuation_lines xs)
unfolding continuation_lines
rows_of [] p = tt
rows_of (x ∷ []) p = (member_row x (codes ")") p.0 close_piece, tt)
rows_of (x ∷ y ∷ ys) p = (member_row x (codes ",") p.0 comma_piece, rows_of (y ∷ ys) p.1)

many_lines : (front : List ℕ) (xs : List (List ℕ)) → Piece 66 front → Pieces 34 xs → length xs ≤ 18 → IsStatement (line front ++ continued xs)
unfolding line
many_lines front xs p u k = record {
  first = codes "      " ++ front;
  more = continuation_lines xs;
  is = ap (λ (z : List ℕ). codes "      " ++ front ++ 10 ∷ [] ++ z) (continued_made xs);
  row = record { inside = p.inside; short = omega (arith, p.short); blank = refl };
  rows = rows_of xs u;
  begins = refl;
  goes = lines_go_on xs;
  few = omega (arith, length_lines xs);
}

listed_inside : (xs : List (List ℕ)) → Pieces 34 xs → list_all is_inside (with_commas xs) ≡ true
unfolding with_commas
listed_inside [] p = refl
listed_inside (x ∷ []) p = p.0.inside
listed_inside (x ∷ y ∷ ys) p = inside_both (x ++ codes ", ") (with_commas (y ∷ ys)) (inside_both x (codes ", ") p.0.inside refl) (listed_inside (y ∷ ys) p.1)

by_length : (t : Bool) (front : List ℕ) (xs : List (List ℕ)) → nat_le (6 + length (front ++ with_commas xs ++ codes ")")) 72 ≡ t → Piece 66 front → Pieces 34 xs → length xs ≤ 18
    → IsStatement (if t then line (front ++ with_commas xs ++ codes ")") else line front ++ continued xs)
by_length true front xs e p u k =
    let s = leb-true (6 + length (front ++ with_commas xs ++ codes ")")) 72 e in
    one_line (front ++ with_commas xs ++ codes ")") (inside_both (front ++ with_commas xs) (codes ")") (inside_both front (with_commas xs) p.inside (listed_inside xs u)) refl) (omega (arith, s))
by_length false front xs e p u k = many_lines front xs p u k

pub with_list_statement : (front : List ℕ) (xs : List (List ℕ)) → Piece 66 front → Pieces 34 xs → length xs ≤ 18 → IsStatement (with_list front xs)
unfolding with_list
with_list_statement front xs p u k = by_length (nat_le (6 + length (front ++ with_commas xs ++ codes ")")) 72) front xs refl p u k

wider : (m n : ℕ) (x : List ℕ) → m ≤ n → Piece m x → Piece n x
wider m n x h p = record { inside = p.inside; short = omega (arith, p.short) }

literal : (n : ℕ) (x : List ℕ) → list_all is_inside x ≡ true → length x ≤ n → Piece n x
literal n x h k = record { inside = h; short = k }

between_high : (least most n : ℕ) → is_between least most n ≡ true → n ≤ most
between_high least most n h = leb-true n most (and_parts (nat_le least n) (nat_le n most) h).1

small_piece : (most n : ℕ) → most < 10000 → is_between 1 most n ≡ true → Piece 4 (decimal n)
small_piece most n k h = let s = between_high 1 most n h in decimal_piece 4 n (omega arith) (omega arith) (omega arith)

type_piece : (ty : FortranType) → is_type ty ≡ true → Piece 17 (type_text ty)
type_piece Double h = literal 17 (codes "DOUBLE PRECISION ") refl (omega arith)
type_piece Integer h = literal 17 (codes "INTEGER ") refl (omega arith)
type_piece Logical h = literal 17 (codes "LOGICAL ") refl (omega arith)
type_piece (Char n) h = wider 15 17 _ (omega arith)
    (both 14 1 (codes "CHARACTER*" ++ decimal n) (codes " ") (both 10 4 (codes "CHARACTER*") (decimal n) (literal 10 (codes "CHARACTER*") refl (omega arith)) (small_piece 1024 n (omega arith) h)) (literal 1 (codes " ") refl (omega arith)))
type_piece CharAny h = literal 17 (codes "CHARACTER*(*) ") refl (omega arith)
type_piece (DoubleVec m) h = literal 17 (codes "DOUBLE PRECISION ") refl (omega arith)
type_piece (DoubleMat m n) h = literal 17 (codes "DOUBLE PRECISION ") refl (omega arith)
type_piece (IntegerVec m) h = literal 17 (codes "INTEGER ") refl (omega arith)

open_piece : Piece 1 (codes "(")
open_piece = literal 1 (codes "(") refl (omega arith)

vector_piece : (m : ℕ) → is_between 1 1000 m ≡ true → Piece 11 (codes "(" ++ decimal m ++ codes ")")
vector_piece m h = wider 6 11 _ (omega arith) (both 5 1 (codes "(" ++ decimal m) (codes ")") (both 1 4 (codes "(") (decimal m) open_piece (small_piece 1000 m (omega arith) h)) close_piece)

extents_piece : (ty : FortranType) → is_type ty ≡ true → Piece 11 (extents_text ty)
extents_piece Double h = literal 11 [] refl (omega arith)
extents_piece Integer h = literal 11 [] refl (omega arith)
extents_piece Logical h = literal 11 [] refl (omega arith)
extents_piece (Char n) h = literal 11 [] refl (omega arith)
extents_piece CharAny h = literal 11 [] refl (omega arith)
extents_piece (DoubleVec m) h = vector_piece m h
extents_piece (DoubleMat m n) h =
    let p = and_parts (is_between 1 1000 m) (is_between 1 1000 n) h in
    both 10 1 (codes "(" ++ decimal m ++ codes "," ++ decimal n) (codes ")")
    (both 6 4 (codes "(" ++ decimal m ++ codes ",") (decimal n) (both 5 1 (codes "(" ++ decimal m) (codes ",") (both 1 4 (codes "(") (decimal m) open_piece (small_piece 1000 m (omega arith) p.0)) comma_piece) (small_piece 1000 n (omega arith) p.1))
    close_piece
extents_piece (IntegerVec m) h = vector_piece m h

declaration_statement : (d : Decl) → is_declaration d ≡ true → IsStatement (declaration_text d)
unfolding declaration_text
declaration_statement d h =
    let p = and_parts (is_type d.ty) (is_fortran_name d.name) h in
    piece_line 34 (type_text d.ty ++ d.name ++ extents_text d.ty) (omega arith) (both 23 11 (type_text d.ty ++ d.name) (extents_text d.ty) (both 17 6 (type_text d.ty) d.name (type_piece d.ty p.0) (name_piece d.name p.1)) (extents_piece d.ty p.0))

-- words that end with a blank, a name and a parenthesis
opening : (n : ℕ) (lead name : List ℕ) → n ≤ 59 → Piece n lead → is_fortran_name name ≡ true → Piece 66 (lead ++ name ++ codes "(")
opening n lead name k p h = wider (n + 6 + 1) 66 _ (omega arith) (both (n + 6) 1 (lead ++ name) (codes "(") (both n 6 lead name p (name_piece name h)) open_piece)

target_piece : (t : List ℕ) → is_fortran_name t ≡ true → Piece 9 (t ++ codes " = ")
target_piece t h = both 6 3 t (codes " = ") (name_piece t h) (literal 3 (codes " = ") refl (omega arith))

executable_statement : (s : Statement) → is_statement s ≡ true → fits_statement s ≡ true → IsStatement (statement_text s)
unfolding is_statement fits_statement statement_text
executable_statement (Call r os) h f =
    let p = and_parts (is_fortran_name r) (list_all is_operand os && is_between 1 18 (length os)) h in
    let q = and_parts (list_all is_operand os) (is_between 1 18 (length os)) p.1 in
    let few = between_high 1 18 (length os) q.1 in
    with_list_statement (codes "CALL " ++ r ++ codes "(") (map operand_text os) (opening 5 (codes "CALL ") r (omega arith) (literal 5 (codes "CALL ") refl (omega arith)) p.0) (operand_pieces os q.0 f) (omega (arith, few, length-map os operand_text))
executable_statement (Assign t o) h f =
    let p = and_parts (is_fortran_name t) (is_operand o) h in
    piece_line 43 (t ++ codes " = " ++ operand_text o) (omega arith) (both 9 34 (t ++ codes " = ") (operand_text o) (target_piece t p.0) (operand_piece o p.1 f))
executable_statement (Apply t g os) h f =
    let p = and_parts (is_fortran_name t) (is_fortran_name g && (list_all is_operand os && nat_le (length os) 12)) h in
    let q = and_parts (is_fortran_name g) (list_all is_operand os && nat_le (length os) 12) p.1 in
    let r = and_parts (list_all is_operand os) (nat_le (length os) 12) q.1 in
    let few = leb-true (length os) 12 r.1 in
    with_list_statement (t ++ codes " = " ++ g ++ codes "(") (map operand_text os) (opening 9 (t ++ codes " = ") g (omega arith) (target_piece t p.0) q.0) (operand_pieces os r.0 f) (omega (arith, few, length-map os operand_text))

pub item_statement : (i : Item) → is_item i ≡ true → IsStatement (item_text i)
unfolding is_item item_text head_text
item_statement (Head n ds) h =
    let p = and_parts (is_fortran_name n) (list_all is_fortran_name ds && is_between 1 18 (length ds)) h in
    let q = and_parts (list_all is_fortran_name ds) (is_between 1 18 (length ds)) p.1 in
    let few = between_high 1 18 (length ds) q.1 in
    with_list_statement (codes "SUBROUTINE " ++ n ++ codes "(") ds (opening 11 (codes "SUBROUTINE ") n (omega arith) (literal 11 (codes "SUBROUTINE ") refl (omega arith)) p.0) (name_pieces ds q.0) few
item_statement (Declaration d) h = declaration_statement d h
item_statement (Executable s) h = let p = and_parts (is_statement s) (fits_statement s) h in executable_statement s p.0 p.1
item_statement End h = piece_line 3 (codes "END") (omega arith) (literal 3 (codes "END") refl (omega arith))
