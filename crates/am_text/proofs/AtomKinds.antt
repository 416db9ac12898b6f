-- What an atom is: no list, and a form that can be written.
use Rattle.std.proofs.Common.{◌≡◌, ℕ, zero, suc, ◌<◌, ◌≤◌, ◌^◌, Bool, true, false, cond, List, [], ◌∷◌, length, Option, Some, refl, subst, ◌∙◌, arith}
use Rattle.std.specs.Prelude.{ℤ, pos, neg_ℤ, nat_lt, nat_le, ◌==◌}
use Rattle.std.specs.List.{list_all}
use Rattle.std.proofs.lemmas.Bool.{lt-ltb}
use Rattle.std.proofs.lemmas.Bool.Decides.{nat_tests}
use Rattle.am_text.specs.declared.form.FormNode.{FormNode}
use Rattle.am_text.specs.declared.form.FormNode.TheVariants.{Word, Number}
use Rattle.am_text.specs.Bytes.{is_word_byte}
use Rattle.am_text.specs.Atoms.{is_number, read_on, number_of, node_spelled}
use Rattle.am_text.specs.Grammar.{node_height}
use Rattle.am_text.specs.Spelling.{fits_word, is_word, node_writable}
use Rattle.am_text.proofs.Folds.{height-Word, height-Number, writable-Word, writable-Number}

abbrev some : FormNode → Option FormNode
some n = Some n

some_if : (t : Bool) (x y : Option FormNode) (n : FormNode) (G : Type 0) → cond t x y ≡ some n → (t ≡ true → x ≡ some n → G) → (t ≡ false → y ≡ some n → G) → G
some_if true x y n G e f g = f refl e
some_if false x y n G e f g = g refl e

same : (m n : FormNode) → some m ≡ some n → m ≡ n
same m n e = cc

number_height : (k : ℤ) (n : FormNode) → some (Number k) ≡ some n → node_height n ≡ 0
number_height k n e = subst (λ (m : FormNode). node_height m ≡ 0) (same (Number k) n e) (height-Number k)

word_height : (w : List ℕ) (n : FormNode) → some (Word w) ≡ some n → node_height n ≡ 0
word_height w n e = subst (λ (m : FormNode). node_height m ≡ 0) (same (Word w) n e) (height-Word w)

numeral_height : (w : List ℕ) (n : FormNode) → number_of w ≡ some n → node_height n ≡ 0
numeral_height [] n e = absurd cc
numeral_height (b ∷ bs) n e =
    some_if (b == 45) _ _ n (node_height n ≡ 0) e
    (λ _ k. some_if (nat_lt (2 ^ 63) (read_on 0 bs)) _ _ n (node_height n ≡ 0) k (λ _ j. absurd cc) (λ _ j. number_height (neg_ℤ (pos (read_on 0 bs))) n j))
    (λ _ k. some_if (nat_lt (read_on 0 (b ∷ bs)) (2 ^ 63)) _ _ n (node_height n ≡ 0) k (λ _ j. number_height (pos (read_on 0 (b ∷ bs))) n j) (λ _ j. absurd cc))

pub atom_height : (w : List ℕ) (n : FormNode) → node_spelled w ≡ some n → node_height n ≡ 0
unfolding node_spelled
atom_height w n e = some_if (is_number w) _ _ n (node_height n ≡ 0) e (λ _ k. numeral_height w n k) (λ _ k. word_height w n k)

-- ---- an atom can be written
number_writable : (k : ℤ) (n : FormNode) → fits_word k ≡ true → some (Number k) ≡ some n → node_writable n ≡ true
number_writable k n f e = subst (λ (m : FormNode). node_writable m ≡ true) (same (Number k) n e) (writable-Number k ∙ f)

minus_fits : (k : ℕ) → nat_lt (2 ^ 63) k ≡ false → fits_word (neg_ℤ (pos k)) ≡ true
minus_fits zero f = refl
minus_fits (suc k) f = let le : suc k ≤ 2 ^ 63 = grind (arith, nat_tests) in lt-ltb k (2 ^ 63) (omega arith)

numeral_writable : (w : List ℕ) (n : FormNode) → number_of w ≡ some n → node_writable n ≡ true
numeral_writable [] n e = absurd cc
numeral_writable (b ∷ bs) n e =
    some_if (b == 45) _ _ n (node_writable n ≡ true) e
    (λ _ k. some_if (nat_lt (2 ^ 63) (read_on 0 bs)) _ _ n (node_writable n ≡ true) k (λ _ j. absurd cc) (λ f j. number_writable (neg_ℤ (pos (read_on 0 bs))) n (minus_fits (read_on 0 bs) f) j))
    (λ _ k. some_if (nat_lt (read_on 0 (b ∷ bs)) (2 ^ 63)) _ _ n (node_writable n ≡ true) k (λ t j. number_writable (pos (read_on 0 (b ∷ bs))) n t j) (λ _ j. absurd cc))

word_writable : (b : ℕ) (w : List ℕ) (n : FormNode) → is_word_byte b ≡ true → list_all is_word_byte w ≡ true → length w < 48 → is_number (b ∷ w) ≡ false → some (Word (b ∷ w)) ≡ some n → node_writable n ≡ true
word_writable b w n e es lt f k = subst (λ (m : FormNode). node_writable m ≡ true) (same (Word (b ∷ w)) n k) (writable-Word (b ∷ w) ∙ is)
  where
    short : nat_le (length (b ∷ w)) 48 ≡ true
    short = grind (arith, nat_tests)

    some_byte : nat_lt 0 (length (b ∷ w)) ≡ true
    some_byte = grind (arith, nat_tests)

    is : is_word (b ∷ w) ≡ true
    is = rw (some_byte, short, e, es, f) refl

pub atom_writable : (b : ℕ) (w : List ℕ) (n : FormNode) → is_word_byte b ≡ true → list_all is_word_byte w ≡ true → length w < 48 → node_spelled (b ∷ w) ≡ some n → node_writable n ≡ true
unfolding node_spelled
atom_writable b w n e es lt a = some_if (is_number (b ∷ w)) _ _ n (node_writable n ≡ true) a (λ _ k. numeral_writable (b ∷ w) n k) (λ f k. word_writable b w n e es lt f k)
