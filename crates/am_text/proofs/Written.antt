-- What is written is in the grammar.
use Rattle.std.proofs.Common.{◌≡◌, ℕ, ◌+◌, ◌<◌, ◌≤◌, Bool, true, false, max, List, [], ◌∷◌, ◌++◌, length, map, Some, refl, sym, ap, subst, ◌∙◌, arith}
use Rattle.std.specs.Prelude.{ℤ, nat_lt, nat_le, not, ◌&&◌}
use Rattle.std.specs.List.{list_all, join_with_byte}
use Rattle.std.proofs.lemmas.List.{append-nil}
use Rattle.std.proofs.lemmas.Bool.Decides.{nat_tests}
use Rattle.am_text.specs.declared.form.Form.{Form}
use Rattle.am_text.specs.declared.form.FormNode.{FormNode}
use Rattle.am_text.specs.declared.form.FormNode.TheVariants as node
use Rattle.am_text.specs.Bytes.{is_word_byte, is_text_byte}
use Rattle.am_text.specs.Atoms.{is_number, node_spelled}
use Rattle.am_text.specs.Grammar.{Reads, End, Blank, EndsWord, form, height, node_height, highest}
use Rattle.am_text.specs.Spelling.{written, node_written, is_word, is_text, is_writable, node_writable, bare, node_bare, lines}
use Rattle.am_text.proofs.FormInduct.{form_induct}
use Rattle.am_text.proofs.Folds.{height-List, height-form, written-Word, written-Number, written-Text, written-List, written-form, writable-Word, writable-Number, writable-Text, writable-List, writable-form, bare-List, bare-form}
use Rattle.am_text.proofs.Found.{Front, Always, nest_front, text_front, atom_front}
use Rattle.am_text.proofs.Numbers.{word_is}
use Rattle.am_text.proofs.Decimals.{decimal_spells}
use Rattle.am_text.proofs.Runs.{both}

-- the text at p is the form g, before whatever may stand behind a word
abbrev pub Before : ℕ → List ℕ → Form → Type 0
Before p text g = (last : Bool) (rest : List ℕ) (gs : List Form) → EndsWord rest → Reads last (p + length text) rest gs → Reads last p (text ++ rest) (g ∷ gs)

front_before : (C : Bool → List ℕ → Type 0) (x : List ℕ) (p q : ℕ) (g : Form) → Front C x p q (g ∷ []) → ((last : Bool) (rest : List ℕ) → EndsWord rest → C last rest) → Before p x g
front_before C x p q g front has = λ last rest gs ends r. front.reads last rest gs (has last rest ends) (subst (λ (k : ℕ). Reads last k rest gs) (sym front.len) r)

atom_before : (p : ℕ) (w : List ℕ) (n : FormNode) → 0 < length w → length w ≤ 48 → list_all is_word_byte w ≡ true → node_spelled w ≡ Some n → Before p w (form p n)
atom_before p [] n lt le e a = absurd (omega arith)
atom_before p (b ∷ w) n lt le e a =
    let g = both (is_word_byte b) (list_all is_word_byte w) e in
    front_before (λ l. EndsWord) (b ∷ w) p (p + 1 + length w) (form p n) (atom_front p b w n g.0 g.1 (omega arith) a) (λ last rest ends. ends)

-- a form that can be written, written at p, is the same form, placed
abbrev pub FormLaw : Form → Type 0
FormLaw f = is_writable f ≡ true → (p : ℕ) → (g : Form) × (bare g ≡ bare f) × (height g ≡ height f) × Before p (written f) g

abbrev NodeLaw : FormNode → Type 0
NodeLaw n = node_writable n ≡ true → (p : ℕ) → (m : FormNode) × (node_bare m ≡ node_bare n) × (node_height m ≡ node_height n) × Before p (node_written n) (form p m)

-- so are the members of a list
abbrev ListLaw : List Form → Type 0
ListLaw fs = list_all (λ b. b) (map is_writable fs) ≡ true → (p : ℕ) → (gs : List Form) × (map bare gs ≡ map bare fs) × (highest gs ≡ highest fs) × Reads false p (join_with_byte 32 (map written fs)) gs

word_law : (w : List ℕ) → NodeLaw (node.Word w)
word_law w ok p =
    let s : is_word w ≡ true = sym (writable-Word w) ∙ ok in
    let g = both (nat_lt 0 (length w)) (nat_le (length w) 48 && (list_all is_word_byte w && not (is_number w))) s in
    let g2 = both (nat_le (length w) 48) (list_all is_word_byte w && not (is_number w)) g.1 in
    let g3 = both (list_all is_word_byte w) (not (is_number w)) g2.1 in
    let some_byte : 0 < length w = grind (arith, nat_tests) in
    let short : length w ≤ 48 = grind (arith, nat_tests) in
    (node.Word w, refl, refl, subst (λ (x : List ℕ). Before p x (form p (node.Word w))) (sym (written-Word w)) (atom_before p w (node.Word w) some_byte short g3.0 (word_is w (not_true (is_number w) g3.1))))
  where
    not_true : (x : Bool) → not x ≡ true → x ≡ false
    not_true true e = absurd cc
    not_true false e = refl

number_law : (n : ℤ) → NodeLaw (node.Number n)
number_law n ok p =
    let s = decimal_spells n (sym (writable-Number n) ∙ ok) in
    (node.Number n, refl, refl, subst (λ (x : List ℕ). Before p x (form p (node.Number n))) (sym (written-Number n)) (atom_before p _ (node.Number n) s.some_byte s.short s.bytes s.atom))

text_law : (t : List ℕ) → NodeLaw (node.Text t)
text_law t ok p =
    let s : is_text t ≡ true = sym (writable-Text t) ∙ ok in
    let g = both (nat_le (length t) 255) (list_all is_text_byte t) s in
    let short : length t ≤ 255 = grind (arith, nat_tests) in (
      node.Text t,
      refl,
      refl,
      subst (λ (x : List ℕ). Before p x (form p (node.Text t))) (sym (written-Text t))
          (front_before Always (34 ∷ t ++ 34 ∷ []) p (p + 1 + length t + 1) (form p (node.Text t)) (text_front p t g.1 short) (λ last rest ends. tt)),
    )

list_law : (fs : List Form) → ListLaw fs → NodeLaw (node.List fs)
list_law fs law ok p =
    let r = law (sym (writable-List fs) ∙ ok) (p + 1) in (
      node.List r.0,
      bare-List r.0 ∙ ap (λ (x : List Form). node.List x) r.1 ∙ sym (bare-List fs),
      height-List r.0 ∙ ap (λ (k : ℕ). 1 + k) r.2 ∙ sym (height-List fs),
      subst (λ (x : List ℕ). Before p x (form p (node.List r.0))) (sym (written-List fs))
          (front_before Always (40 ∷ join_with_byte 32 (map written fs) ++ 41 ∷ []) p (p + 1 + length (join_with_byte 32 (map written fs)) + 1) (form p (node.List r.0)) (nest_front p (join_with_byte 32 (map written fs)) r.0 r.3) (λ last rest ends. tt)),
    )

placed_law : (q : ℕ) (n : FormNode) → NodeLaw n → FormLaw (record { place = q; node = n })
placed_law q n law ok p =
    let r = law (sym (writable-form q n) ∙ ok) p in (
      form p r.0,
      bare-form p r.0 ∙ ap (λ (m : FormNode). form 0 m) r.1 ∙ sym (bare-form q n),
      height-form p r.0 ∙ r.2 ∙ sym (height-form q n),
      subst (λ (x : List ℕ). Before p x (form p r.0)) (sym (written-form q n)) r.3,
    )

none_law : ListLaw []
none_law ok p = ([], refl, refl, End false p)

more_law : (f : Form) (fs : List Form) → FormLaw f → ListLaw fs → ListLaw (f ∷ fs)
more_law f [] law more ok p =
    let g = both (is_writable f) true ok in
    let r = law g.0 p in
    (r.0 ∷ [], ap (λ (x : Form). x ∷ []) r.1, ap (λ (k : ℕ). max k 0) r.2, subst (λ (x : List ℕ). Reads false p x (r.0 ∷ [])) (append-nil (written f)) (r.3 false [] [] tt (End false (p + length (written f)))))
more_law f (f2 ∷ fs) law more ok p =
    let g = both (is_writable f) (list_all (λ b. b) (map is_writable (f2 ∷ fs))) ok in
    let r = law g.0 p in
    let rest = join_with_byte 32 (map written (f2 ∷ fs)) in
    let s = more g.1 (p + length (written f) + 1) in
    (r.0 ∷ s.0, rw (r.1, s.1) refl, rw (r.2, s.2) refl, r.3 false (32 ∷ rest) s.0 refl (Blank false (p + length (written f)) 32 rest s.0 refl s.3))

pub form_law : (f : Form) → FormLaw f
form_law = form_induct NodeLaw FormLaw ListLaw word_law number_law text_law list_law placed_law none_law more_law

-- ---- forms on lines of their own
pub lines_law : (fs : List Form) → list_all is_writable fs ≡ true → (p : ℕ) → (gs : List Form) × (map bare gs ≡ map bare fs) × (highest gs ≡ highest fs) × Reads true p (lines fs) gs
lines_law [] ok p = ([], refl, refl, End true p)
lines_law (f ∷ fs) ok p =
    let g = both (is_writable f) (list_all is_writable fs) ok in
    let r = form_law f g.0 p in
    let s = lines_law fs g.1 (p + length (written f) + 1) in
    (r.0 ∷ s.0, rw (r.1, s.1) refl, rw (r.2, s.2) refl, r.3 true (10 ∷ lines fs) s.0 refl (Blank true (p + length (written f)) 10 (lines fs) s.0 refl s.3))
