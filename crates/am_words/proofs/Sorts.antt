-- The kinds of words, as the reading and as `clap` see them.
use Rattle.std.proofs.Common.{◌≡◌, ◌∙◌, ◌==◌, ℕ, Bool, true, false, suc, refl, sym, ap, arith, List, [], ◌∷◌, length, Option, Some, None}
use Rattle.std.specs.Str.{bytes_eq, chars, IsUtf8}
use Rattle.std.specs.Prelude.{nat_eq, slice_get, find}
use Rattle.std.specs.List.{list_any, before_first, after_first}
use Rattle.std.proofs.lemmas.Str.{chars-encodes, IsUtf8-drop, IsCharBoundary-after_ascii}
use Rattle.std.proofs.lemmas.Bool.Decides.{nat_tests}
use Rattle.clap.specs.Lexer.{long_of, short_of}
use Rattle.am_words.specs.Grammar.{Text, is_dashes, is_option, option_word, alone, with, unknown}

pub data Word (options : List Text) (w : Text) : Type 0 where
  w_dashes : is_dashes w ≡ true → is_option w ≡ true → Word options w
  w_alone : (n k : Text) → is_dashes w ≡ false → is_option w ≡ true → long_of w ≡ Some (n, None) → find (λ j. bytes_eq j n) options ≡ Some k → option_word options w ≡ alone k → Word options w
  w_with : (n k v : Text) → is_dashes w ≡ false → is_option w ≡ true → long_of w ≡ Some (n, Some v) → find (λ j. bytes_eq j n) options ≡ Some k → option_word options w ≡ with k v → Word options w
  w_unknown : (n : Text) (v : Option Text) → is_dashes w ≡ false → is_option w ≡ true → long_of w ≡ Some (n, v) → find (λ j. bytes_eq j n) options ≡ None → option_word options w ≡ unknown → Word options w
  w_short : (letters : Text) (x n : ℕ) → is_dashes w ≡ false → is_option w ≡ true → long_of w ≡ None → short_of w ≡ Some letters
      → length letters ≡ suc n → slice_get (chars letters) 0 ≡ Some x → option_word options w ≡ unknown → Word options w
  w_name : is_dashes w ≡ false → is_option w ≡ false → long_of w ≡ None → short_of w ≡ None → Word options w

module _ (options : List Text) where
  long_word : (o : Option Text) (c : Bool) (x y z : ℕ) (zs : Text) → nat_eq x 45 ≡ true → nat_eq y 45 ≡ true
      → find (λ j. bytes_eq j (before_first (λ k. k == 61) (z ∷ zs))) options ≡ o → list_any (λ k. k == 61) (z ∷ zs) ≡ c → Word options (x ∷ y ∷ z ∷ zs)
  long_word (Some k) true x y z zs ex ey e f = w_with (before_first (λ k. k == 61) (z ∷ zs)) k (after_first (λ k. k == 61) (z ∷ zs)) (rw (ex, ey) refl) ex (rw (ex, ey, f) refl) e (rw (ey, e, f) refl)
  long_word (Some k) false x y z zs ex ey e f = w_alone (before_first (λ k. k == 61) (z ∷ zs)) k (rw (ex, ey) refl) ex (rw (ex, ey, f) refl) e (rw (ey, e, f) refl)
  long_word None true x y z zs ex ey e f = w_unknown (before_first (λ k. k == 61) (z ∷ zs)) (Some (after_first (λ k. k == 61) (z ∷ zs))) (rw (ex, ey) refl) ex (rw (ex, ey, f) refl) e (rw (ey, e) refl)
  long_word None false x y z zs ex ey e f = w_unknown (before_first (λ k. k == 61) (z ∷ zs)) None (rw (ex, ey) refl) ex (rw (ex, ey, f) refl) e (rw (ey, e) refl)

  -- a text that isn't empty has a first character
  head_char : (y : ℕ) (rest : Text) → IsUtf8 (y ∷ rest) → (x : ℕ) × (slice_get (chars (y ∷ rest)) 0 ≡ Some x)
  head_char y rest ([], u) = let bad : [] ≡ y ∷ rest = u.1 in absurd cc
  head_char y rest (c ∷ cs, u) = (c, ap (λ t. slice_get (chars t) 0) (sym u.1) ∙ ap (λ t. slice_get t 0) (chars-encodes (c ∷ cs) u.0))

  second_char : (b : Bool) (x y : ℕ) (rest : Text) → nat_eq x 45 ≡ true → nat_eq y 45 ≡ b → IsUtf8 (y ∷ rest) → Word options (x ∷ y ∷ rest)
  second_char true x y [] ex ey u = w_dashes (rw (ex, ey) refl) ex
  second_char true x y (z ∷ zs) ex ey u = long_word (find (λ j. bytes_eq j (before_first (λ k. k == 61) (z ∷ zs))) options) (list_any (λ k. k == 61) (z ∷ zs)) x y z zs ex ey refl refl
  second_char false x y rest ex ey u =
      w_short (y ∷ rest) (head_char y rest u).0 (length rest) (rw (ex, ey) refl) ex (rw (ex, ey) refl) (rw (ex, ey) refl) refl (head_char y rest u).1 (rw ey refl)

  pair : (b : Bool) (x y : ℕ) (rest : Text) → nat_eq x 45 ≡ b → IsUtf8 (x ∷ y ∷ rest) → Word options (x ∷ y ∷ rest)
  pair false x y rest e u = w_name (rw e refl) e (rw e refl) (rw e refl)
  pair true x y rest e u =
      let is : x ≡ 45 = grind (arith, nat_tests) in
      second_char (nat_eq y 45) x y rest e refl (IsUtf8-drop (x ∷ y ∷ rest) 1 u (IsCharBoundary-after_ascii (x ∷ y ∷ rest) 0 u (omega arith) (rw is (omega arith))))

  single : (b : Bool) (x : ℕ) → nat_eq x 45 ≡ b → Word options (x ∷ [])
  single true x e = w_name (rw e refl) refl (rw e refl) (rw e refl)
  single false x e = w_name (rw e refl) refl (rw e refl) (rw e refl)

  pub word_of : (w : Text) → IsUtf8 w → Word options w
  word_of [] u = w_name refl refl refl refl
  word_of (x ∷ []) u = single (nat_eq x 45) x refl
  word_of (x ∷ y ∷ rest) u = pair (nat_eq x 45) x y rest refl u
