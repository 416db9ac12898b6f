-- Numbers, words and lists have no two blanks in a row, however large the numbers are.
use Rattle.std.proofs.Common.{◌≡◌, ◌∙◌, ◌<◌, ◌+◌, ◌/◌, ◌%◌, ◌++◌, ◌==◌, ℕ, zero, suc, pos, arith, refl, sym, ap, Bool}
use Rattle.std.proofs.Common.{true, false, List, [], ◌∷◌, map, nat_lt, codes, decimal, if◌then◌else◌}
use Rattle.std.specs.Fmt.{digits, digits_onto, digit_glyph}
use Rattle.std.specs.List.{list_all}
use Rattle.std.proofs.lemmas.Bool.{and_parts}
use Rattle.std.proofs.lemmas.Bool.Decides.{nat_tests}
use Rattle.am_text.specs.declared.form.Form.{Form}
use Rattle.am_text.specs.declared.form.FormNode.TheVariants as node
use Rattle.am_text.specs.Spelling.{is_word}
use Rattle.am_text.proofs.Folds.{written-Word, written-Number, written-form}
use Rattle.am_syntax.specs.Forms.{word_form, headed_form, all_true}
use Rattle.am_clause.specs.declared.row.Rule.{Rule}
use Rattle.am_clause.specs.declared.row.Rule.TheVariants as rule
use Rattle.am_clause.specs.declared.row.Side.{Side}
use Rattle.am_clause.specs.declared.row.Side.TheVariants.{Left, Right}
use Rattle.am_log.specs.Groups.{is_inside}
use Rattle.am_log.specs.Spelled.{variable_word, number_form, side_form, path_form, rule_word, rule_members}
use Rattle.am_log.specs.Spelled.{is_row_name}
use Rattle.am_log.proofs.Neat.{AllNeat}
use Rattle.am_log.proofs.Tidy.{tidy, tidy_append, neat, word_neat, list_neat}
use Rattle.am_log.proofs.WordsOf.{name_is_word}

-- ---- numbers

high_tidy : (g : ℕ) → 32 < g → ((g == 32) ≡ false) × (is_inside g ≡ true)
high_tidy g h = (blank, line)
  where
    blank : (g == 32) ≡ false
    blank = grind (arith, nat_tests)

    line : is_inside g ≡ true
    line = grind (arith, nat_tests)

glyph_high : (b : Bool) (d : ℕ) → 32 < (if b then 48 + d else 87 + d)
glyph_high true d = omega arith
glyph_high false d = omega arith

one_more : (g : ℕ) (digits : List ℕ) (blank : Bool) → 32 < g → tidy false digits ≡ true → tidy blank (g ∷ digits) ≡ true
one_more g digits blank high h = let s = high_tidy g high in rw (s.0, s.1, h) refl

either_tidy : (b blank : Bool) (x y : List ℕ) → tidy blank x ≡ true → tidy blank y ≡ true
    → tidy blank (if b then x else y) ≡ true
either_tidy true blank x y h k = h
either_tidy false blank x y h k = k

onto_tidy : (f n : ℕ) (behind : List ℕ) (blank : Bool) → tidy false behind ≡ true
    → tidy blank (digits_onto (suc f) 10 false n behind) ≡ true
onto_tidy zero n behind blank h =
    let digit : ℕ = digit_glyph false (n % 10) in
    let one = one_more digit behind blank (glyph_high (nat_lt (n % 10) 10) (n % 10)) h in
    either_tidy (n / 10 == 0) blank (digit ∷ behind) (digit ∷ behind) one one
onto_tidy (suc f) n behind blank h =
    let digit : ℕ = digit_glyph false (n % 10) in
    let high = glyph_high (nat_lt (n % 10) 10) (n % 10) in
    either_tidy (n / 10 == 0) blank (digit ∷ behind) (digits_onto (suc f) 10 false (n / 10) (digit ∷ behind))
    (one_more digit behind blank high h)
    (onto_tidy f (n / 10) (digit ∷ behind) blank (one_more digit behind false high h))

decimal_tidy : (n : ℕ) (blank : Bool) → tidy blank (decimal n) ≡ true
unfolding digits
decimal_tidy n blank = onto_tidy 63 n [] blank refl

pub any_number_neat : (n : ℕ) → neat (number_form n) ≡ true
any_number_neat n = ap (tidy true) (written-form 0 (node.Number (pos n)) ∙ written-Number (pos n)) ∙ decimal_tidy n true

-- ---- words and lists

word_tidy : (w : List ℕ) → is_word w ≡ true → tidy true w ≡ true
word_tidy w e = sym (ap (tidy true) (written-form 0 (node.Word w) ∙ written-Word w)) ∙ word_neat w e

pub variable_neat : (s : List ℕ) (n : ℕ) → is_row_name s ≡ true → neat (word_form (variable_word s n)) ≡ true
variable_neat s n e =
    ap (tidy true) (written-form 0 (node.Word (variable_word s n)) ∙ written-Word (variable_word s n))
    ∙ tidy_append s (63 ∷ decimal n) true (word_tidy s (name_is_word s e)) ∙ decimal_tidy n false

pub more : (f : Form) (fs : List Form) → neat f ≡ true → AllNeat fs → AllNeat (f ∷ fs)
more f fs e k = rw (e, k) refl

pub headed_neat : (h : List ℕ) (fs : List Form) → is_word h ≡ true → AllNeat fs → neat (headed_form h fs) ≡ true
headed_neat h fs e k = list_neat (word_form h ∷ fs) (more (word_form h) fs (word_neat h e) k)

pub both_neat : (fs gs : List Form) → AllNeat fs → AllNeat gs → AllNeat (fs ++ gs)
both_neat [] gs e k = k
both_neat (f ∷ fs) gs e k =
    let s = and_parts (neat f) (all_true (map neat fs)) e in
    more f (fs ++ gs) s.0 (both_neat fs gs s.1 k)

pub maps_neat : {A B : Type 0} (p : A → Bool) (f : A → B) (w : B → Form)
    → ((x : A) → p x ≡ true → neat (w (f x)) ≡ true) → (xs : List A) → list_all p xs ≡ true → AllNeat (map w (map f xs))
maps_neat p f w h [] e = refl
maps_neat p f w h (x ∷ xs) e =
    let s = and_parts (p x) (list_all p xs) e in
    more (w (f x)) (map w (map f xs)) (h x s.0) (maps_neat p f w h xs s.1)

-- ---- rules

path_neat : (path : List ℕ) → AllNeat (map number_form path)
path_neat [] = refl
path_neat (k ∷ path) = more (number_form k) (map number_form path) (any_number_neat k) (path_neat path)

side_neat : (s : Side) → neat (side_form s) ≡ true
side_neat Left = word_neat (codes "left") refl
side_neat Right = word_neat (codes "right") refl

replacing_neat : (p j q i : ℕ) (side : Side) (path : List ℕ)
    → AllNeat (number_form p ∷ number_form j ∷ side_form side ∷ number_form q ∷ number_form i ∷ path_form path ∷ [])
replacing_neat p j q i side path =
    let w : neat (path_form path) ≡ true = list_neat (map number_form path) (path_neat path) in
    rw (any_number_neat p, any_number_neat j, side_neat side, any_number_neat q, any_number_neat i, w) refl

pub members_neat : (r : Rule) → AllNeat (rule_members r)
members_neat (rule.Axiom a c) = rw (any_number_neat a, any_number_neat c) refl
members_neat rule.Goal = refl
members_neat (rule.Given k) = rw (any_number_neat k) refl
members_neat (rule.Factor p i j) = rw (any_number_neat p, any_number_neat i, any_number_neat j) refl
members_neat (rule.Reflex p i) = rw (any_number_neat p, any_number_neat i) refl
members_neat (rule.Resolve p i q j) =
    rw (any_number_neat p, any_number_neat i, any_number_neat q, any_number_neat j) refl
members_neat (rule.Para p j side q i path) = replacing_neat p j q i side path
members_neat (rule.Rewrite p j side q i path) = replacing_neat p j q i side path
members_neat (rule.Close p) = rw (any_number_neat p) refl

pub rule_is_word : (r : Rule) → is_word (rule_word r) ≡ true
rule_is_word (rule.Axiom a c) = refl
rule_is_word rule.Goal = refl
rule_is_word (rule.Given k) = refl
rule_is_word (rule.Factor p i j) = refl
rule_is_word (rule.Reflex p i) = refl
rule_is_word (rule.Resolve p i q j) = refl
rule_is_word (rule.Para p j side q i path) = refl
rule_is_word (rule.Rewrite p j side q i path) = refl
rule_is_word (rule.Close p) = refl
