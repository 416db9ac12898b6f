-- The form of what was read, beside the form that it was read from.
use Rattle.std.proofs.Common.{◌≡◌, ℕ, ◌+◌, ◌≤◌, max, Bool, true, false, List, [], ◌∷◌, map, Option, Some, None, refl, sym, ap, subst, ◌∙◌, arith}
use Rattle.std.specs.Prelude.{codes, if◌then◌else◌}
use Rattle.am_term.specs.Names.{is_name}
use Rattle.am_term.specs.Span.{greatest}
use Rattle.am_text.specs.declared.form.Form.{Form}
use Rattle.am_text.specs.declared.form.FormNode.{FormNode}
use Rattle.am_text.specs.declared.form.FormNode.TheVariants as node
use Rattle.am_text.specs.Grammar.{height, node_height, highest}
use Rattle.am_text.specs.Spelling.{bare, node_bare, is_word, is_writable, node_writable}
use Rattle.am_text.proofs.Folds.{height-Word, height-List, height-form, writable-List, writable-form, bare-Word, bare-Number, bare-Text, bare-List, bare-form}
use Rattle.am_text.proofs.FormInduct.{form_induct, node_induct}
use Rattle.am_text.proofs.Runs.{both}
use Rattle.am_syntax.specs.declared.written.Words.{Words}
use Rattle.am_syntax.specs.declared.written.WrittenTerm.{WrittenTerm}
use Rattle.am_syntax.specs.declared.written.WrittenTerm.TheVariants.{Alone}
use Rattle.am_syntax.specs.declared.written.WrittenAtom.TheVariants.{Equation, Relation}
use Rattle.am_syntax.specs.declared.written.WrittenFormula.{WrittenFormula}
use Rattle.am_syntax.specs.declared.written.WrittenFormula.TheVariants as made
use Rattle.am_syntax.specs.Shapes.{may_stand, term_of, formula_of}
use Rattle.am_syntax.specs.Heads.{word_of}
use Rattle.am_syntax.specs.Forms.{word_form, list_form, headed_form, term_form, formula_form, all_true}
use Rattle.am_syntax.specs.ShapeLaws.{ReadTermIsItsForm, ReadTermIsNoHigher, ReadFormulaIsNoHigher, ReadTermCanBeWritten, ReadFormulaCanBeWritten}
use Rattle.am_syntax.proofs.ShapeEquations.{no_term, no_formula, node_term, node_formula, term-at, term-Word, term-Number, term-Text, term-nil, term-cons, formula-at, formula-Word, formula-Number, formula-Text, formula-nil, word-Word, word-Number, word-Text, word-List}
use Rattle.am_syntax.proofs.FormEquations.{form-Alone, form-Headed, form-Atom, form-Not, form-And, form-Or, form-Implies, form-Iff, form-Quantified}
use Rattle.am_syntax.proofs.Members.{AreEach, Matched, all_matched, headed_is, of_list}
use Rattle.am_syntax.proofs.Writable.{name_is_word, word_writable, list_writable}

abbrev form : ℕ → FormNode → Form
form p n = record { place = p; node = n }

abbrev a_term : WrittenTerm → Option WrittenTerm
a_term t = Some t

abbrev a_formula : WrittenFormula → Option WrittenFormula
a_formula f = Some f

abbrev a_word : List ℕ → Option (List ℕ)
a_word w = Some w

abbrev without : Option (List ℕ)
without = None

-- ---- a node with a word is that word
word_is : (n : FormNode) (w : List ℕ) → word_of n ≡ a_word w → n ≡ node.Word w
word_is = node_induct (λ n. (w : List ℕ) → word_of n ≡ a_word w → n ≡ node.Word w) (λ f. Unit {0}) (λ fs. Unit {0})
    (λ v w e. ap (λ (x : List ℕ). node.Word x) (let g : a_word v ≡ a_word w = sym (word-Word v) ∙ e in let k : v ≡ w = cc in k))
    (λ n w e. absurd (let g : without ≡ a_word w = sym (word-Number n) ∙ e in cc))
    (λ t w e. absurd (let g : without ≡ a_word w = sym (word-Text t) ∙ e in cc))
    (λ fs h w e. absurd (let g : without ≡ a_word w = sym (word-List fs) ∙ e in cc))
    (λ p n h. tt) tt (λ f fs h k. tt)

bare_word : (f : Form) (w : List ℕ) → word_of f.node ≡ a_word w → bare f ≡ word_form w
bare_word f w e = bare-form f.place f.node ∙ ap (λ (n : FormNode). form 0 (node_bare n)) (word_is f.node w e) ∙ ap (form 0) (bare-Word w)

-- ---- terms
abbrev FormAgain : Form → WrittenTerm → Type 0
FormAgain f t = term_form t ≡ bare f

abbrev NodeAgain : Words → FormNode → Type 0
NodeAgain words n = (t : WrittenTerm) → node_term words n ≡ a_term t → term_form t ≡ form 0 (node_bare n)

abbrev TermAgain : Words → Form → Type 0
TermAgain words f = (t : WrittenTerm) → term_of words f ≡ a_term t → term_form t ≡ bare f

abbrev TermsAgain : Words → List Form → Type 0
TermsAgain words = AreEach Form WrittenTerm (term_of words) FormAgain

matched_forms : (words : Words) (fs : List Form) (ts : List WrittenTerm) → Matched Form WrittenTerm (term_of words) FormAgain fs ts → map term_form ts ≡ map bare fs
matched_forms words [] [] h = refl
matched_forms words [] (t ∷ ts) h = absurd h
matched_forms words (f ∷ fs) [] h = absurd h
matched_forms words (f ∷ fs) (t ∷ ts) h = ap (λ (x : Form). x ∷ map term_form ts) h.0 ∙ ap (λ (xs : List Form). bare f ∷ xs) (matched_forms words fs ts h.1)

word_again : (words : Words) (w : List ℕ) (b : Bool) (t : WrittenTerm) → (if b then Some (Alone w) else no_term) ≡ a_term t → term_form t ≡ form 0 (node_bare (node.Word w))
word_again words w true t e = ap term_form (let g : t ≡ Alone w = cc in g) ∙ form-Alone w ∙ ap (form 0) (sym (bare-Word w))
word_again words w false t e = absurd cc

list_again : (words : Words) (fs : List Form) → TermsAgain words fs → NodeAgain words (node.List fs)
list_again words [] h t e = absurd (let g : no_term ≡ a_term t = sym (term-nil words) ∙ e in cc)
list_again words (f ∷ fs) h t e =
    let i = headed_is (word_of f.node) (map (term_of words) fs) t (sym (term-cons words f fs) ∙ e) in
    let m = matched_forms words fs i.1 (all_matched Form WrittenTerm (term_of words) FormAgain fs h.1 i.1 i.3) in
    ap term_form (sym i.4) ∙ form-Headed i.0 i.1
    ∙ ap (λ (x : Form). list_form (x ∷ map term_form i.1)) (sym (bare_word f i.0 i.2))
    ∙ ap (λ (xs : List Form). list_form (bare f ∷ xs)) m
    ∙ ap (form 0) (sym (bare-List (f ∷ fs)))

pub read_term_is_its_form : ReadTermIsItsForm
read_term_is_its_form = λ words. form_induct (NodeAgain words) (TermAgain words) (TermsAgain words)
    (λ w t e. word_again words w (may_stand words w) t (sym (term-Word words w) ∙ e))
    (λ n t e. absurd (let g : no_term ≡ a_term t = sym (term-Number words n) ∙ e in cc))
    (λ x t e. absurd (let g : no_term ≡ a_term t = sym (term-Text words x) ∙ e in cc))
    (list_again words)
    (λ p n h t e. h t (sym (term-at words (form p n)) ∙ e) ∙ sym (bare-form p n))
    tt
    (λ f fs h k. (h, k))

-- ---- forms without their places are as high, and can be written alike
height_bare : (f : Form) → height (bare f) ≡ height f
height_bare = form_induct (λ n. node_height (node_bare n) ≡ node_height n) (λ f. height (bare f) ≡ height f) (λ fs. map height (map bare fs) ≡ map height fs)
    (λ w. ap node_height (bare-Word w))
    (λ n. ap node_height (bare-Number n))
    (λ t. ap node_height (bare-Text t))
    (λ fs h. ap node_height (bare-List fs) ∙ height-List (map bare fs) ∙ ap (λ (hs : List ℕ). 1 + greatest hs) h ∙ sym (height-List fs))
    (λ p n h. ap height (bare-form p n) ∙ height-form 0 (node_bare n) ∙ h ∙ sym (height-form p n))
    refl
    (λ f fs h k. rw (h, k) refl)

writable_bare : (f : Form) → is_writable (bare f) ≡ is_writable f
writable_bare = form_induct (λ n. node_writable (node_bare n) ≡ node_writable n) (λ f. is_writable (bare f) ≡ is_writable f) (λ fs. map is_writable (map bare fs) ≡ map is_writable fs)
    (λ w. ap node_writable (bare-Word w))
    (λ n. ap node_writable (bare-Number n))
    (λ t. ap node_writable (bare-Text t))
    (λ fs h. ap node_writable (bare-List fs) ∙ writable-List (map bare fs) ∙ ap all_true h ∙ sym (writable-List fs))
    (λ p n h. ap is_writable (bare-form p n) ∙ writable-form 0 (node_bare n) ∙ h ∙ sym (writable-form p n))
    refl
    (λ f fs h k. rw (h, k) refl)

height_same : (words : Words) (f : Form) (t : WrittenTerm) → term_of words f ≡ a_term t → height (term_form t) ≡ height f
height_same words f t e = ap height (read_term_is_its_form words f t e) ∙ height_bare f

pub read_term_is_no_higher : ReadTermIsNoHigher
read_term_is_no_higher = λ words f t e. let g = height_same words f t e in omega arith

pub read_term_writable : ReadTermCanBeWritten
read_term_writable = λ words f t e ok. ap is_writable (read_term_is_its_form words f t e) ∙ writable_bare f ∙ ok

-- ---- formulas: a form no higher than another, which can be written if that can
abbrev Within : ℕ → Bool → Form → Type 0
Within h ok g = (height g ≤ h) × (ok ≡ true → is_writable g ≡ true)

abbrev AllWithin : ℕ → Bool → List Form → Type 0
AllWithin h ok gs = (highest gs ≤ h) × (ok ≡ true → all_true (map is_writable gs) ≡ true)

height_word : (w : List ℕ) → height (word_form w) ≡ 0
height_word w = height-form 0 (node.Word w) ∙ height-Word w

height_headed : (h : List ℕ) (gs : List Form) → height (headed_form h gs) ≡ 1 + highest gs
height_headed h gs = height-form 0 (node.List (word_form h ∷ gs)) ∙ height-List (word_form h ∷ gs) ∙ ap (λ (k : ℕ). 1 + max k (highest gs)) (height_word h) ∙ omega arith

headed_within : (h : List ℕ) (m : ℕ) (ok : Bool) (gs : List Form) → is_word h ≡ true → AllWithin m ok gs → Within (1 + m) ok (headed_form h gs)
headed_within h m ok gs e k = (low, λ o. list_writable h gs e (k.1 o))
  where
    low : height (headed_form h gs) ≤ 1 + m
    low = let g = height_headed h gs in let l = k.0 in omega arith

abbrev TermWithin : Form → WrittenTerm → Type 0
TermWithin f t = Within (height f) (is_writable f) (term_form t)

abbrev FormulaWithin : Form → WrittenFormula → Type 0
FormulaWithin f g = Within (height f) (is_writable f) (formula_form g)

abbrev TermsWithin : Words → List Form → Type 0
TermsWithin words = AreEach Form WrittenTerm (term_of words) TermWithin

abbrev FormulasWithin : Words → List Form → Type 0
FormulasWithin words = AreEach Form WrittenFormula (formula_of words) FormulaWithin

within_more : (f g : Form) (fs gs : List Form) → Within (height f) (is_writable f) g → AllWithin (highest fs) (all_true (map is_writable fs)) gs → AllWithin (highest (f ∷ fs)) (all_true (map is_writable (f ∷ fs))) (g ∷ gs)
within_more f g fs gs h k = (low, can)
  where
    low : highest (g ∷ gs) ≤ highest (f ∷ fs)
    low = let a = h.0 in let b = k.0 in omega arith

    can : all_true (map is_writable (f ∷ fs)) ≡ true → all_true (map is_writable (g ∷ gs)) ≡ true
    can ok = let s = both (is_writable f) (all_true (map is_writable fs)) ok in rw (h.1 s.0, k.1 s.1) refl

within_none : AllWithin (highest []) (all_true []) []
within_none = (omega arith, λ ok. refl)

matched_terms : (words : Words) (fs : List Form) (ts : List WrittenTerm) → Matched Form WrittenTerm (term_of words) TermWithin fs ts → AllWithin (highest fs) (all_true (map is_writable fs)) (map term_form ts)
matched_terms words [] [] h = within_none
matched_terms words [] (t ∷ ts) h = absurd h
matched_terms words (f ∷ fs) [] h = absurd h
matched_terms words (f ∷ fs) (t ∷ ts) h = within_more f (term_form t) fs (map term_form ts) h.0 (matched_terms words fs ts h.1)

matched_formulas : (words : Words) (fs : List Form) (gs : List WrittenFormula) → Matched Form WrittenFormula (formula_of words) FormulaWithin fs gs → AllWithin (highest fs) (all_true (map is_writable fs)) (map formula_form gs)
matched_formulas words [] [] h = within_none
matched_formulas words [] (g ∷ gs) h = absurd h
matched_formulas words (f ∷ fs) [] h = absurd h
matched_formulas words (f ∷ fs) (g ∷ gs) h = within_more f (formula_form g) fs (map formula_form gs) h.0 (matched_formulas words fs gs h.1)

terms_within : (words : Words) (fs : List Form) → TermsWithin words fs
terms_within words [] = tt
terms_within words (f ∷ fs) = (λ t e. (read_term_is_no_higher words f t e, read_term_writable words f t e), terms_within words fs)

along : (m : ℕ) (ok : Bool) (f g : Form) → f ≡ g → Within m ok g → Within m ok f
along m ok f g e h = subst (Within m ok) (sym e) h

-- the formula that a list is, whose members are within these bounds
module _ (m : ℕ) (ok : Bool) where
  abbrev P : WrittenFormula → Type 0
  P g = Within (1 + m) ok (formula_form g)

  abbrev T : List WrittenTerm → Type 0
  T ts = AllWithin m ok (map term_form ts)

  abbrev F : List WrittenFormula → Type 0
  F gs = AllWithin m ok (map formula_form gs)

  low_not : (f : WrittenFormula) → F (f ∷ []) → P (made.Not f)
  low_not f h = along (1 + m) ok _ _ (form-Not f) (headed_within (codes "not") m ok (formula_form f ∷ []) refl h)

  low_and : (f : WrittenFormula) (fs : List WrittenFormula) → F (f ∷ fs) → P (made.And (f ∷ fs))
  low_and f fs h = along (1 + m) ok _ _ (form-And (f ∷ fs)) (headed_within (codes "and") m ok (map formula_form (f ∷ fs)) refl h)

  low_or : (f : WrittenFormula) (fs : List WrittenFormula) → F (f ∷ fs) → P (made.Or (f ∷ fs))
  low_or f fs h = along (1 + m) ok _ _ (form-Or (f ∷ fs)) (headed_within (codes "or") m ok (map formula_form (f ∷ fs)) refl h)

  low_implies : (f g : WrittenFormula) → F (f ∷ g ∷ []) → P (made.Implies f g)
  low_implies f g h = along (1 + m) ok _ _ (form-Implies f g) (headed_within (codes "=>") m ok (formula_form f ∷ formula_form g ∷ []) refl h)

  low_iff : (f g : WrittenFormula) → F (f ∷ g ∷ []) → P (made.Iff f g)
  low_iff f g h = along (1 + m) ok _ _ (form-Iff f g) (headed_within (codes "<=>") m ok (formula_form f ∷ formula_form g ∷ []) refl h)

  low_equation : (t u : WrittenTerm) → T (t ∷ u ∷ []) → P (made.Atom (Equation t u))
  low_equation t u h = along (1 + m) ok _ _ (form-Atom (Equation t u)) (headed_within (codes "=") m ok (term_form t ∷ term_form u ∷ []) refl h)

  low_relation : (n : List ℕ) (t : WrittenTerm) (ts : List WrittenTerm) → is_name n ≡ true → T (t ∷ ts) → P (made.Atom (Relation n (t ∷ ts)))
  low_relation n t ts e h = along (1 + m) ok _ _ (form-Atom (Relation n (t ∷ ts))) (headed_within n m ok (map term_form (t ∷ ts)) (name_is_word n e) h)

  low_quantified : P made.Quantified
  low_quantified = along (1 + m) ok _ _ form-Quantified (headed_within (codes "all") m ok [] refl (omega arith, λ o. refl))

abbrev NodeLow : Words → FormNode → Type 0
NodeLow words n = (g : WrittenFormula) → node_formula words n ≡ a_formula g → Within (node_height n) (node_writable n) (formula_form g)

abbrev FormLow : Words → Form → Type 0
FormLow words f = (g : WrittenFormula) → formula_of words f ≡ a_formula g → FormulaWithin f g

word_low : (words : Words) (w : List ℕ) (b : Bool) (g : WrittenFormula) → is_name w ≡ b → (if b then Some (made.Atom (Relation w [])) else no_formula) ≡ a_formula g → Within (node_height (node.Word w)) (node_writable (node.Word w)) (formula_form g)
word_low words w true g e f =
    subst (λ (x : WrittenFormula). Within (node_height (node.Word w)) (node_writable (node.Word w)) (formula_form x)) (let k : made.Atom (Relation w []) ≡ g = cc in k)
    (along (node_height (node.Word w)) (node_writable (node.Word w)) _ _ (form-Atom (Relation w [])) (low, λ o. word_writable w (name_is_word w e)))
  where
    low : height (word_form w) ≤ node_height (node.Word w)
    low = let a = height_word w in omega arith
word_low words w false g e f = absurd cc

wider : (f : Form) (fs : List Form) (g : Form) → Within (1 + highest fs) (all_true (map is_writable fs)) g → Within (node_height (node.List (f ∷ fs))) (node_writable (node.List (f ∷ fs))) g
wider f fs g h = (low, λ o. h.1 (both (is_writable f) (all_true (map is_writable fs)) (sym (writable-List (f ∷ fs)) ∙ o)).1)
  where
    low : height g ≤ node_height (node.List (f ∷ fs))
    low = let a = h.0 in let b = height-List (f ∷ fs) in omega arith

list_low : (words : Words) (fs : List Form) → FormulasWithin words fs → NodeLow words (node.List fs)
list_low words [] h g e = absurd (let p : no_formula ≡ a_formula g = sym (formula-nil words) ∙ e in cc)
list_low words (f ∷ fs) h g e =
    let m = highest fs in
    let ok = all_true (map is_writable fs) in
    wider f fs (formula_form g)
    (of_list (P m ok) (T m ok) (F m ok) (low_not m ok) (low_and m ok) (low_or m ok) (low_implies m ok) (low_iff m ok) (low_equation m ok) (low_relation m ok) (low_quantified m ok) words f fs g
    (λ ts i. matched_terms words fs ts (all_matched Form WrittenTerm (term_of words) TermWithin fs (terms_within words fs) ts i))
    (λ gs i. matched_formulas words fs gs (all_matched Form WrittenFormula (formula_of words) FormulaWithin fs h.1 gs i))
    e)

at_form : (p : ℕ) (n : FormNode) (g : Form) → Within (node_height n) (node_writable n) g → Within (height (form p n)) (is_writable (form p n)) g
at_form p n g h = (low, λ o. h.1 (sym (writable-form p n) ∙ o))
  where
    low : height g ≤ height (form p n)
    low = let a = h.0 in let b = height-form p n in omega arith

read_formula_low : (words : Words) (f : Form) → FormLow words f
read_formula_low words = form_induct (NodeLow words) (FormLow words) (FormulasWithin words)
    (λ w g e. word_low words w (is_name w) g refl (sym (formula-Word words w) ∙ e))
    (λ n g e. absurd (let p : no_formula ≡ a_formula g = sym (formula-Number words n) ∙ e in cc))
    (λ x g e. absurd (let p : no_formula ≡ a_formula g = sym (formula-Text words x) ∙ e in cc))
    (list_low words)
    (λ p n h g e. at_form p n (formula_form g) (h g (sym (formula-at words (form p n)) ∙ e)))
    tt
    (λ f fs h k. (h, k))

pub read_formula_is_no_higher : ReadFormulaIsNoHigher
read_formula_is_no_higher = λ words f g e. (read_formula_low words f g e).0

pub read_formula_writable : ReadFormulaCanBeWritten
read_formula_writable = λ words f g e ok. (read_formula_low words f g e).1 ok
