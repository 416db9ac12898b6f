-- Forms of terms and formulas whose words are names can be written.
use Rattle.std.proofs.Common.{◌≡◌, ℕ, true, false, List, [], ◌∷◌, length, map, refl, sym, ap, ◌∙◌, arith}
use Rattle.std.specs.Prelude.{◌&&◌, ◌==◌, not, codes, nat_lt, nat_le}
use Rattle.std.specs.Char.{is_ascii_digit}
use Rattle.std.specs.List.{list_all}
use Rattle.std.proofs.lemmas.Bool.Decides.{nat_tests}
use Rattle.am_term.specs.Names.{is_name, is_lower, is_name_byte, is_reserved}
use Rattle.am_text.specs.declared.form.Form.{Form}
use Rattle.am_text.specs.declared.form.FormNode.TheVariants as node
use Rattle.am_text.specs.Atoms.{is_number}
use Rattle.am_text.specs.Bytes.{is_word_byte}
use Rattle.am_text.specs.Spelling.{is_word, is_writable}
use Rattle.am_text.proofs.Folds.{writable-Word, writable-List, writable-form}
use Rattle.am_text.proofs.Runs.{both}
use Rattle.am_syntax.specs.declared.written.Words.TheVariants.{Names}
use Rattle.am_syntax.specs.declared.written.WrittenTerm.{WrittenTerm}
use Rattle.am_syntax.specs.declared.written.WrittenTerm.TheVariants.{Alone, Headed}
use Rattle.am_syntax.specs.declared.written.WrittenAtom.{WrittenAtom}
use Rattle.am_syntax.specs.declared.written.WrittenAtom.TheVariants.{Equation, Relation}
use Rattle.am_syntax.specs.declared.written.WrittenFormula.{WrittenFormula}
use Rattle.am_syntax.specs.declared.written.WrittenFormula.TheVariants as made
use Rattle.am_syntax.specs.Induct.{written_term_induct}
use Rattle.am_syntax.specs.InductFormula.{written_formula_induct}
use Rattle.am_syntax.specs.Forms.{word_form, headed_form, term_form, atom_form, formula_form, is_some_list, all_true, is_spellable, is_spellable_atom, is_spellable_formula}
use Rattle.am_syntax.specs.ShapeLaws.{SpelledTermCanBeWritten, SpelledFormulaCanBeWritten}
use Rattle.am_syntax.proofs.SpelledRead.{all_in}
use Rattle.am_syntax.proofs.FormEquations.{form-Alone, form-Headed, form-Atom, form-Not, form-And, form-Or, form-Implies, form-Iff, form-Quantified, spellable-Alone, spellable-Headed, spellable-Atom, spellable-Not, spellable-And, spellable-Or, spellable-Implies, spellable-Iff}

-- ---- a name is a word and no number
lower_word : (b : ℕ) → is_lower b ≡ true → is_word_byte b ≡ true
lower_word b e = grind (arith, nat_tests)

name_word_byte : (b : ℕ) → is_name_byte b ≡ true → is_word_byte b ≡ true
name_word_byte b e = grind (arith, nat_tests)

name_word_bytes : (bs : List ℕ) → list_all is_name_byte bs ≡ true → list_all is_word_byte bs ≡ true
name_word_bytes [] e = refl
name_word_bytes (b ∷ bs) e =
    let s = both (is_name_byte b) (list_all is_name_byte bs) e in
    rw (name_word_byte b s.0, name_word_bytes bs s.1) refl

lower_no_hyphen : (b : ℕ) → is_lower b ≡ true → (b == 45) ≡ false
lower_no_hyphen b e = grind (arith, nat_tests)

lower_no_digit : (b : ℕ) → is_lower b ≡ true → is_ascii_digit b ≡ false
lower_no_digit b e = grind (arith, nat_tests)

no_number : (b : ℕ) (bs : List ℕ) → is_lower b ≡ true → is_number (b ∷ bs) ≡ false
no_number b bs e = rw (lower_no_hyphen b e, lower_no_digit b e) refl

short_word : (b : ℕ) (bs : List ℕ) → nat_le (length bs) 30 ≡ true → (nat_lt 0 (length (b ∷ bs)) ≡ true) × (nat_le (length (b ∷ bs)) 48 ≡ true)
short_word b bs e = (some_byte, short)
  where
    some_byte : nat_lt 0 (length (b ∷ bs)) ≡ true
    some_byte = grind (arith, nat_tests)

    short : nat_le (length (b ∷ bs)) 48 ≡ true
    short = grind (arith, nat_tests)

pub name_is_word : (n : List ℕ) → is_name n ≡ true → is_word n ≡ true
unfolding is_name
name_is_word [] e = absurd cc
name_is_word (b ∷ bs) e =
    let s = both (is_lower b) (list_all is_name_byte bs && (nat_le (length bs) 30 && not (is_reserved (b ∷ bs)))) e in
    let r = both (list_all is_name_byte bs) (nat_le (length bs) 30 && not (is_reserved (b ∷ bs))) s.1 in
    let q = both (nat_le (length bs) 30) (not (is_reserved (b ∷ bs))) r.1 in
    let l = short_word b bs q.0 in
    rw (l.0, l.1, lower_word b s.0, name_word_bytes bs r.0, no_number b bs s.0) refl

-- ---- words and lists that can be written
pub word_writable : (w : List ℕ) → is_word w ≡ true → is_writable (word_form w) ≡ true
word_writable w e = writable-form 0 (node.Word w) ∙ writable-Word w ∙ e

pub list_writable : (h : List ℕ) (fs : List Form) → is_word h ≡ true → all_true (map is_writable fs) ≡ true → is_writable (headed_form h fs) ≡ true
list_writable h fs e k = writable-form 0 (node.List (word_form h ∷ fs)) ∙ writable-List (word_form h ∷ fs) ∙ rw (word_writable h e, k) refl

-- ---- terms
abbrev TermWritable : WrittenTerm → Type 0
TermWritable t = is_spellable Names t ≡ true → is_writable (term_form t) ≡ true

abbrev TermsWritable : List WrittenTerm → Type 0
TermsWritable ts = all_true (map (is_spellable Names) ts) ≡ true → all_true (map is_writable (map term_form ts)) ≡ true

alone_writable : (w : List ℕ) → TermWritable (Alone w)
alone_writable w ok = ap is_writable (form-Alone w) ∙ word_writable w (name_is_word w (sym (spellable-Alone Names w) ∙ ok))

headed_writable : (h : List ℕ) (args : List WrittenTerm) → TermsWritable args → TermWritable (Headed h args)
headed_writable h args law ok =
    let s = both (is_name h) (is_some_list (map (is_spellable Names) args) && all_true (map (is_spellable Names) args)) (sym (spellable-Headed Names h args) ∙ ok) in
    let m = both (is_some_list (map (is_spellable Names) args)) (all_true (map (is_spellable Names) args)) s.1 in
    ap is_writable (form-Headed h args) ∙ list_writable h (map term_form args) (name_is_word h s.0) (law m.1)

no_terms : TermsWritable []
no_terms ok = refl

more_terms : (t : WrittenTerm) (ts : List WrittenTerm) → TermWritable t → TermsWritable ts → TermsWritable (t ∷ ts)
more_terms t ts law laws ok =
    let s = both (is_spellable Names t) (all_true (map (is_spellable Names) ts)) ok in
    rw (law s.0, laws s.1) refl

pub spelled_term_writable : SpelledTermCanBeWritten
spelled_term_writable = written_term_induct TermWritable TermsWritable alone_writable headed_writable no_terms more_terms

terms_writable : (ts : List WrittenTerm) → TermsWritable ts
terms_writable [] = no_terms
terms_writable (t ∷ ts) = more_terms t ts (spelled_term_writable t) (terms_writable ts)

-- ---- formulas
atom_writable : (a : WrittenAtom) → is_spellable_atom Names a ≡ true → is_writable (atom_form a) ≡ true
atom_writable (Equation left right) ok =
    let s = both (is_spellable Names left) (is_spellable Names right) ok in
    list_writable (codes "=") (term_form left ∷ term_form right ∷ []) refl (rw (spelled_term_writable left s.0, spelled_term_writable right s.1) refl)
atom_writable (Relation n []) ok = word_writable n (name_is_word n (both (is_name n) true ok).0)
atom_writable (Relation n (t ∷ ts)) ok =
    let s = both (is_name n) (list_all (is_spellable Names) (t ∷ ts)) ok in
    list_writable n (map term_form (t ∷ ts)) (name_is_word n s.0) (terms_writable (t ∷ ts) (sym (all_in (is_spellable Names) (t ∷ ts)) ∙ s.1))

abbrev Writable : WrittenFormula → Type 0
Writable f = is_spellable_formula Names f ≡ true → is_writable (formula_form f) ≡ true

abbrev AllWritable : List WrittenFormula → Type 0
AllWritable fs = all_true (map (is_spellable_formula Names) fs) ≡ true → all_true (map is_writable (map formula_form fs)) ≡ true

write_atom : (a : WrittenAtom) → Writable (made.Atom a)
write_atom a ok = ap is_writable (form-Atom a) ∙ atom_writable a (sym (spellable-Atom Names a) ∙ ok)

write_not : (f : WrittenFormula) → Writable f → Writable (made.Not f)
write_not f law ok = ap is_writable (form-Not f) ∙ list_writable (codes "not") (formula_form f ∷ []) refl (rw (law (sym (spellable-Not Names f) ∙ ok)) refl)

write_and : (fs : List WrittenFormula) → AllWritable fs → Writable (made.And fs)
write_and fs law ok =
    let s = both (is_some_list (map (is_spellable_formula Names) fs)) (all_true (map (is_spellable_formula Names) fs)) (sym (spellable-And Names fs) ∙ ok) in
    ap is_writable (form-And fs) ∙ list_writable (codes "and") (map formula_form fs) refl (law s.1)

write_or : (fs : List WrittenFormula) → AllWritable fs → Writable (made.Or fs)
write_or fs law ok =
    let s = both (is_some_list (map (is_spellable_formula Names) fs)) (all_true (map (is_spellable_formula Names) fs)) (sym (spellable-Or Names fs) ∙ ok) in
    ap is_writable (form-Or fs) ∙ list_writable (codes "or") (map formula_form fs) refl (law s.1)

write_implies : (f g : WrittenFormula) → Writable f → Writable g → Writable (made.Implies f g)
write_implies f g law more ok =
    let s = both (is_spellable_formula Names f) (is_spellable_formula Names g) (sym (spellable-Implies Names f g) ∙ ok) in
    ap is_writable (form-Implies f g) ∙ list_writable (codes "=>") (formula_form f ∷ formula_form g ∷ []) refl (rw (law s.0, more s.1) refl)

write_iff : (f g : WrittenFormula) → Writable f → Writable g → Writable (made.Iff f g)
write_iff f g law more ok =
    let s = both (is_spellable_formula Names f) (is_spellable_formula Names g) (sym (spellable-Iff Names f g) ∙ ok) in
    ap is_writable (form-Iff f g) ∙ list_writable (codes "<=>") (formula_form f ∷ formula_form g ∷ []) refl (rw (law s.0, more s.1) refl)

write_quantified : Writable made.Quantified
write_quantified ok = ap is_writable form-Quantified ∙ list_writable (codes "all") [] refl refl

no_formulas : AllWritable []
no_formulas ok = refl

more_formulas : (f : WrittenFormula) (fs : List WrittenFormula) → Writable f → AllWritable fs → AllWritable (f ∷ fs)
more_formulas f fs law laws ok =
    let s = both (is_spellable_formula Names f) (all_true (map (is_spellable_formula Names) fs)) ok in
    rw (law s.0, laws s.1) refl

pub spelled_formula_writable : SpelledFormulaCanBeWritten
spelled_formula_writable = written_formula_induct Writable AllWritable write_atom write_not write_and write_or write_implies write_iff write_quantified no_formulas more_formulas
