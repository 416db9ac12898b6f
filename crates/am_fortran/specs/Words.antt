-- The words of a group: what stands between blanks, commas, parentheses and ends of lines, where a
-- text between apostrophes is one word, which keeps the first of them, and an opening parenthesis is a word of its own.
use Rattle.std.specs.Prelude.{◌||◌, ◌==◌, ℕ, Bool, true, false, List, [], ◌∷◌, ◌++◌, codes, if◌then◌else◌}
use Rattle.std.specs.List.{fold}
use Rattle.am_term.specs.Names.{is_fortran_byte}
use Rattle.am_fortran.specs.Well.{is_between}

-- what a word is made of outside texts: capitals, digits, the minus sign and the equals sign
abbrev pub is_unit_word_byte : ℕ → Bool
is_unit_word_byte b = is_fortran_byte b || (b == 45 || b == 61)

-- the words that are done, the one that is being read, and whether it is a text that goes on
pub record Scan : Type 0 where
  pub done : List (List ℕ)
  pub word : List ℕ
  pub quoted : Bool

-- the words with one more, if it isn't empty
abbrev pub with_word : List (List ℕ) → List ℕ → List (List ℕ)
with_word done [] = done
with_word done (b ∷ bs) = done ++ (b ∷ bs) ∷ []

-- inside a text: an apostrophe ends it, and is left out; bytes that don't print are passed over
unfoldable pub in_quotes : Scan → ℕ → Scan
in_quotes s b =
    if b == 39 then record { done = s.done; word = s.word; quoted = false }
    else if is_between 32 126 b then record { done = s.done; word = s.word ++ b ∷ []; quoted = true }
    else s

-- the word being read is done
abbrev pub word_ended : Scan → Scan
word_ended s = record { done = with_word s.done s.word; word = []; quoted = false }

abbrev pub with_parenthesis : Scan → Scan
with_parenthesis s = record { done = s.done ++ codes "(" ∷ []; word = s.word; quoted = s.quoted }

-- outside texts: a byte of a word, an apostrophe, a parenthesis, or what ends a word
unfoldable pub in_words : Scan → ℕ → Scan
in_words s b =
    if is_unit_word_byte b then record { done = s.done; word = s.word ++ b ∷ []; quoted = false }
    else if b == 39 then record { done = s.done; word = s.word ++ b ∷ []; quoted = true }
    else if b == 40 then with_parenthesis (word_ended s)
    else word_ended s

unfoldable pub scan_step : Scan → ℕ → Scan
scan_step s b = if s.quoted then in_quotes s b else in_words s b

abbrev pub scan_start : Scan
scan_start = record { done = []; word = []; quoted = false }

-- a word that isn't ended is left out
unfoldable pub words : List ℕ → List (List ℕ)
words bytes = (fold scan_step scan_start bytes).done
