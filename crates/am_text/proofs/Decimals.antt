-- A number's decimal is a word that is read as the number.
use Rattle.std.proofs.Common.{◌≡◌, ℕ, suc, ◌<◌, ◌≤◌, ◌^◌, true, false, List, [], ◌∷◌, length, Option, Some, refl, arith}
use Rattle.std.specs.Prelude.{ℤ, pos, negsuc, ◌==◌}
use Rattle.std.specs.List.{list_all}
use Rattle.std.specs.Char.{is_ascii_digit}
use Rattle.std.specs.Fmt.{decimal, signed_decimal}
use Rattle.std.proofs.lemmas.Fmt.{decimal_nonempty, length-decimal-le, digits_decimal, digits_value-decimal}
use Rattle.std.proofs.lemmas.Bool.{le-ltb, lt-ltb}
use Rattle.std.proofs.lemmas.Bool.Decides.{nat_tests}
use Rattle.am_text.specs.declared.form.FormNode.{FormNode}
use Rattle.am_text.specs.declared.form.FormNode.TheVariants.{Number}
use Rattle.am_text.specs.Bytes.{is_word_byte}
use Rattle.am_text.specs.Atoms.{read_on, node_spelled}
use Rattle.am_text.specs.Spelling.{fits_word}
use Rattle.am_text.proofs.Numbers.{own}
use Rattle.am_text.proofs.Runs.{both}

abbrev some : FormNode → Option FormNode
some n = Some n

word_byte : (d : ℕ) → is_ascii_digit d ≡ true → is_word_byte d ≡ true
word_byte d e = rw e refl

word_bytes : (ds : List ℕ) → list_all is_ascii_digit ds ≡ true → list_all is_word_byte ds ≡ true
word_bytes [] e = refl
word_bytes (d ∷ ds) e = let g = both (is_ascii_digit d) (list_all is_ascii_digit ds) e in rw (word_byte d g.0, word_bytes ds g.1) refl

no_minus : (d : ℕ) → is_ascii_digit d ≡ true → (d == 45) ≡ false
no_minus d e = grind (arith, nat_tests)

plain_atom : (ds : List ℕ) (k : ℕ) → 0 < length ds → list_all is_ascii_digit ds ≡ true → read_on 0 ds ≡ k → k < 2 ^ 63 → node_spelled ds ≡ some (Number (pos k))
unfolding node_spelled
plain_atom [] k lt e v fit = absurd (omega arith)
plain_atom (d ∷ ds) k lt e v fit =
    let g = both (is_ascii_digit d) (list_all is_ascii_digit ds) e in
    rw (no_minus d g.0, e, v, lt-ltb k (2 ^ 63) fit) refl

minus_atom : (ds : List ℕ) (k : ℕ) → 0 < length ds → list_all is_ascii_digit ds ≡ true → read_on 0 ds ≡ suc k → k < 2 ^ 63 → node_spelled (45 ∷ ds) ≡ some (Number (negsuc k))
unfolding node_spelled
minus_atom [] k lt e v fit = absurd (omega arith)
minus_atom (d ∷ ds) k lt e v fit = rw (e, v, le-ltb (2 ^ 63) (suc k) fit) refl

-- what the spelling of a number that fits is: the number, and no longer than a word
pub record Spells (w : List ℕ) (n : ℤ) : Type 0 where
  pub some_byte : 0 < length w
  pub short : length w ≤ 48
  pub bytes : list_all is_word_byte w ≡ true
  pub atom : node_spelled w ≡ some (Number n)

pub decimal_spells : (n : ℤ) → fits_word n ≡ true → Spells (signed_decimal n) n
decimal_spells (pos k) f =
    let lt : k < 2 ^ 63 = grind (arith, nat_tests) in
    let ds = digits_decimal own k (omega arith) in
    record {
      some_byte = decimal_nonempty k (omega arith);
      short = omega (arith, length-decimal-le 20 k (omega arith) (omega arith) (omega arith));
      bytes = word_bytes (decimal k) ds;
      atom = plain_atom (decimal k) k (decimal_nonempty k (omega arith)) ds (digits_value-decimal own k (omega arith)) lt;
    }
decimal_spells (negsuc k) f =
    let lt : k < 2 ^ 63 = grind (arith, nat_tests) in
    let ds = digits_decimal own (suc k) (omega arith) in
    record {
      some_byte = omega arith;
      short = omega (arith, length-decimal-le 20 (suc k) (omega arith) (omega arith) (omega arith));
      bytes = rw (word_bytes (decimal (suc k)) ds) refl;
      atom = minus_atom (decimal (suc k)) k (decimal_nonempty (suc k) (omega arith)) ds (digits_value-decimal own (suc k) (omega arith)) lt;
    }
