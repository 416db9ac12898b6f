-- A text is spelled as the row by names that is guessed, or as none.
use Rattle.std.proofs.Common.{◌≡◌, ◌≤◌, ◌+◌, ℕ, true, false, Option, Some, None, List, [], ◌∷◌, length, map, Result, Ok, Err, refl, sym, ap, subst, ◌∙◌, arith}
use Rattle.std.specs.Prelude.{◌&&◌}
use Rattle.std.specs.Str.{bytes_eq}
use Rattle.std.proofs.lemmas.List.{append-nil}
use Rattle.std.proofs.lemmas.Bool.{and_parts}
use Rattle.std.proofs.lemmas.Slice.Eq.{bytes_eq-Decides}
use Rattle.am_text.specs.declared.fault.TextFault.{TextFault}
use Rattle.am_text.specs.declared.form.Form.{Form}
use Rattle.am_text.specs.Grammar.{Reads, End, height}
use Rattle.am_text.specs.Scan.{read}
use Rattle.am_text.specs.Spelling.{bare}
use Rattle.am_text.proofs.Written.{form_law}
use Rattle.am_text.proofs.Found.{read_found}
use Rattle.am_text.proofs.Converse.{one_reading_is}
use Rattle.am_text.proofs.Trip.{written_again}
use Rattle.am_log.specs.declared.named.NamedRow.{NamedRow}
use Rattle.am_log.specs.Spelled.{Spells, row_depth_limit, is_named_row, row_form, row_text, SpellsNothing}
use Rattle.am_log.specs.Guess.{guess_row, one_form, guess_from, guess_text}
use Rattle.am_log.specs.Text.{byte_limit}
use Rattle.am_log.proofs.Writable.{row_writable}
use Rattle.am_log.proofs.Again.{row_again}
use Rattle.am_log.proofs.Bare.{row_bare}

abbrev pub a_row : NamedRow → Option NamedRow
a_row r = Some r

-- ---- the text of a row is guessed as that row
one_again : (r : NamedRow) (others : List Form) → is_named_row r ≡ true → map bare others ≡ map bare (row_form r ∷ []) → one_form others ≡ a_row r
one_again r [] e h = absurd (let k : [] ≡ bare (row_form r) ∷ [] = h in cc)
one_again r (f ∷ []) e h =
    let k : bare f ≡ bare (row_form r) = cc in
    ap a_row (sym (row_bare f) ∙ ap guess_row k ∙ row_bare (row_form r) ∙ row_again r e)
one_again r (f ∷ g ∷ fs) e h = absurd (let k : bare f ∷ bare g ∷ map bare fs ≡ bare (row_form r) ∷ [] = h in cc)

pub guess_again : (t : List ℕ) (r : NamedRow) → Spells t r → length t ≤ byte_limit → guess_text t ≡ a_row r
unfolding guess_text
guess_again t r s l =
    let w = written_again byte_limit row_depth_limit (row_form r) (row_writable r s.named) s.low (subst (λ (x : List ℕ). length x ≤ byte_limit) s.text_is l) in
    let again : read byte_limit row_depth_limit t ≡ Ok w.0 = ap (read byte_limit row_depth_limit) s.text_is ∙ w.1 in
    ap guess_from again ∙ one_again r w.0 s.named w.2

-- ---- a row that is guessed and written as the text is no higher than may be
low_by : (r : NamedRow) (f : Form) → is_named_row r ≡ true → Reads true 0 (row_text r) (f ∷ []) → height f ≤ row_depth_limit → height (row_form r) ≤ row_depth_limit
low_by r f e reads low =
    let g = form_law (row_form r) (row_writable r e) 0 in
    let other : Reads true 0 (row_text r) (g.0 ∷ []) = subst (λ (x : List ℕ). Reads true 0 x (g.0 ∷ [])) (append-nil (row_text r)) (g.3 true [] [] tt (End true (0 + length (row_text r)))) in
    let same : f ∷ [] ≡ g.0 ∷ [] = one_reading_is (row_text r) (f ∷ []) (g.0 ∷ []) reads other in
    let k : f ≡ g.0 = cc in
    omega (arith, low, ap height k, g.2)

equal_bytes : (a b : List ℕ) → bytes_eq a b ≡ true → a ≡ b
equal_bytes a b e = grind (arith, bytes_eq-Decides a b)

same_bytes : (a b : List ℕ) → a ≡ b → bytes_eq a b ≡ true
same_bytes a b e = grind (arith, bytes_eq-Decides a b)

found_in : (t : List ℕ) (r : NamedRow) (fs : List Form) → read byte_limit row_depth_limit t ≡ Ok fs → one_form fs ≡ a_row r → is_named_row r ≡ true → row_text r ≡ t → Spells t r
found_in t r [] e g n h = absurd cc
found_in t r (f ∷ []) e g n h =
    let w = read_found byte_limit row_depth_limit t (f ∷ []) e in
    let low : height f ≤ row_depth_limit = omega (arith, w.1) in
    record { named = n; low = low_by r f n (subst (λ (x : List ℕ). Reads true 0 x (f ∷ [])) (sym h) w.0) low; text_is = sym h }
found_in t r (f ∷ g ∷ fs) e h n k = absurd cc

found_by : (t : List ℕ) (r : NamedRow) (x : Result (List Form) TextFault) → read byte_limit row_depth_limit t ≡ x → guess_from x ≡ a_row r → is_named_row r ≡ true → row_text r ≡ t → Spells t r
found_by t r (Ok fs) e g n h = found_in t r fs e g n h
found_by t r (Err x) e g n h = absurd cc

pub row_spelled : (t : List ℕ) (r : NamedRow) → a_row r ≡ guess_text t → (is_named_row r && bytes_eq (row_text r) t) ≡ true → Spells t r
unfolding guess_text
row_spelled t r g b =
    let s = and_parts (is_named_row r) (bytes_eq (row_text r) t) b in
    found_by t r (read byte_limit row_depth_limit t) refl (sym g) s.0 (equal_bytes (row_text r) t s.1)

pub none_guessed : (t : List ℕ) → length t ≤ byte_limit → guess_text t ≡ None → SpellsNothing t
none_guessed t l e = λ r s. let g : guess_text t ≡ a_row r = guess_again t r s l in absurd cc

pub other_guessed : (t : List ℕ) (r : NamedRow) → length t ≤ byte_limit → a_row r ≡ guess_text t → (is_named_row r && bytes_eq (row_text r) t) ≡ false → SpellsNothing t
other_guessed t r l e b = λ q s.
    let g : guess_text t ≡ a_row q = guess_again t q s l in
    let k : q ≡ r = cc in
    let z : Spells t r = subst (λ (x : NamedRow). Spells t x) k s in
    let n : is_named_row r ≡ true = z.named in
    let m : bytes_eq (row_text r) t ≡ true = same_bytes (row_text r) t (sym z.text_is) in
    let y : (is_named_row r && bytes_eq (row_text r) t) ≡ true = rw (n, m) refl in
    absurd cc
