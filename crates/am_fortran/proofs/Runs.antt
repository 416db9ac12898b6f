-- What the scanner of words makes of the pieces of a text.
use Rattle.std.proofs.Common.{◌≡◌, ◌++◌, ◌<◌, ℕ, true, false, List, [], ◌∷◌, length, refl, sym, ap, ◌∙◌, arith}
use Rattle.std.specs.List.{flat_map, fold, list_all}
use Rattle.std.specs.Prelude.{◌&&◌, ◌==◌, not}
use Rattle.std.proofs.lemmas.Grind.{common_steps, fold-append}
use Rattle.std.proofs.lemmas.Bool.{and_parts}
use Rattle.std.proofs.lemmas.Bool.Decides.{nat_tests}
use mathlib.Core.List.{append_assoc, append-nil}
use Rattle.am_fortran.specs.Joined.{separated}
use Rattle.am_fortran.specs.Well.{is_unit_text_byte, is_between}
use Rattle.am_fortran.specs.Words.{Scan, scan_step, in_quotes, in_words, is_unit_word_byte, with_word}

-- between words, with these done
abbrev pub between : List (List ℕ) → Scan
between done = record { done = done; word = []; quoted = false }

abbrev pub in_word : List (List ℕ) → List ℕ → Scan
in_word done w = record { done = done; word = w; quoted = false }

abbrev pub quoting : List (List ℕ) → List ℕ → Scan
quoting done w = record { done = done; word = w; quoted = true }

pub run_both : (s t u : Scan) (a b : List ℕ) → fold scan_step s a ≡ t → fold scan_step t b ≡ u → fold scan_step s (a ++ b) ≡ u
run_both s t u a b p q = fold-append scan_step s a b ∙ ap (λ (x : Scan). fold scan_step x b) p ∙ q

step_word : (done : List (List ℕ)) (w : List ℕ) (b : ℕ) → is_unit_word_byte b ≡ true → scan_step (in_word done w) b ≡ in_word done (w ++ b ∷ [])
unfolding scan_step in_words
step_word done w b h = rw h refl

-- bytes of a word go to its end
pub run_word : (done : List (List ℕ)) (w x : List ℕ) → list_all is_unit_word_byte x ≡ true → fold scan_step (in_word done w) x ≡ in_word done (w ++ x)
run_word done w [] h = ap (in_word done) (sym (append-nil w))
run_word done w (b ∷ bs) h =
    let p = and_parts (is_unit_word_byte b) (list_all is_unit_word_byte bs) h in
    ap (λ (s : Scan). fold scan_step s bs) (step_word done w b p.0) ∙ run_word done (w ++ b ∷ []) bs p.1 ∙ ap (in_word done) (append_assoc w (b ∷ []) bs)

step_text : (done : List (List ℕ)) (w : List ℕ) (b : ℕ) → is_unit_text_byte b ≡ true → scan_step (quoting done w) b ≡ quoting done (w ++ b ∷ [])
unfolding scan_step in_quotes
step_text done w b h =
    let p = and_parts (is_between 32 126 b) (not (b == 34) && not (b == 39)) h in
    let q : (b == 39) ≡ false = grind (arith, common_steps, nat_tests) in
    rw (q, p.0) refl

-- bytes of a text too
pub run_text : (done : List (List ℕ)) (w x : List ℕ) → list_all is_unit_text_byte x ≡ true → fold scan_step (quoting done w) x ≡ quoting done (w ++ x)
run_text done w [] h = ap (quoting done) (sym (append-nil w))
run_text done w (b ∷ bs) h =
    let p = and_parts (is_unit_text_byte b) (list_all is_unit_text_byte bs) h in
    ap (λ (s : Scan). fold scan_step s bs) (step_text done w b p.0) ∙ run_text done (w ++ b ∷ []) bs p.1 ∙ ap (quoting done) (append_assoc w (b ∷ []) bs)

-- the text x is read as the word y
pub record IsWord (x y : List ℕ) : Type 0 where
  pub some : 0 < length y
  pub run : (done : List (List ℕ)) → fold scan_step (between done) x ≡ in_word done y

-- what ends a word, and leaves nothing behind it
abbrev pub IsGap : List ℕ → Type 0
IsGap g = (done : List (List ℕ)) (w : List ℕ) → fold scan_step (in_word done w) g ≡ between (with_word done w)

abbrev pub Words : List (List ℕ) → List (List ℕ) → Type 0
Words [] [] = Unit {0}
Words [] (y ∷ ys) = ⊥
Words (x ∷ xs) [] = ⊥
Words (x ∷ xs) (y ∷ ys) = IsWord x y × Words xs ys

with_word-some : (done : List (List ℕ)) (w : List ℕ) → 0 < length w → with_word done w ≡ done ++ w ∷ []
with_word-some done [] h = absurd (omega arith)
with_word-some done (b ∷ bs) h = refl

-- behind a word that is being read, the others follow, each behind a gap
run_others : (gap tail : List ℕ) → IsGap gap → IsGap tail → (xs ys : List (List ℕ)) → Words xs ys → (done : List (List ℕ)) (w : List ℕ) → 0 < length w
    → fold scan_step (in_word done w) (flat_map (λ y. gap ++ y) xs ++ tail) ≡ between (done ++ w ∷ ys)
run_others gap tail g t [] [] u done w h = t done w ∙ ap between (with_word-some done w h)
run_others gap tail g t [] (y ∷ ys) u done w h = absurd u
run_others gap tail g t (x ∷ xs) [] u done w h = absurd u
run_others gap tail g t (x ∷ xs) (y ∷ ys) u done w h =
    let one : fold scan_step (in_word done w) (gap ++ x) ≡ in_word (done ++ w ∷ []) y = run_both _ (between (done ++ w ∷ [])) _ gap x (g done w ∙ ap between (with_word-some done w h)) (u.0.run (done ++ w ∷ [])) in
    let rest = run_others gap tail g t xs ys u.1 (done ++ w ∷ []) y u.0.some in
    ap (fold scan_step (in_word done w)) (append_assoc (gap ++ x) (flat_map (λ z. gap ++ z) xs) tail)
    ∙ run_both _ _ _ (gap ++ x) (flat_map (λ z. gap ++ z) xs ++ tail) one rest
    ∙ ap between (append_assoc done (w ∷ []) (y ∷ ys))

pub run_joined : (gap tail : List ℕ) → IsGap gap → IsGap tail → (xs ys : List (List ℕ)) → Words xs ys → (done : List (List ℕ))
    → fold scan_step (between done) (separated gap xs ++ tail) ≡ between (done ++ ys)
unfolding separated
run_joined gap tail g t [] [] u done = t done [] ∙ ap between (sym (append-nil done))
run_joined gap tail g t [] (y ∷ ys) u done = absurd u
run_joined gap tail g t (x ∷ xs) [] u done = absurd u
run_joined gap tail g t (x ∷ xs) (y ∷ ys) u done =
    ap (fold scan_step (between done)) (append_assoc x (flat_map (λ z. gap ++ z) xs) tail)
    ∙ run_both _ _ _ x (flat_map (λ z. gap ++ z) xs ++ tail) (u.0.run done) (run_others gap tail g t xs ys u.1 done y u.0.some)
