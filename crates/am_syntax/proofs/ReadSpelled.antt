-- Terms and formulas that were read can be forms.
use Rattle.std.proofs.Common.{◌≡◌, ℕ, Bool, true, false, List, [], ◌∷◌, map, Option, Some, refl, sym, subst, ◌∙◌}
use Rattle.std.specs.Prelude.{◌&&◌, if◌then◌else◌}
use Rattle.std.specs.List.{list_all}
use Rattle.am_term.specs.Names.{is_name}
use Rattle.am_text.specs.declared.form.Form.{Form}
use Rattle.am_text.specs.declared.form.FormNode.{FormNode}
use Rattle.am_text.specs.declared.form.FormNode.TheVariants as node
use Rattle.am_text.proofs.FormInduct.{form_induct}
use Rattle.am_syntax.specs.declared.written.Words.{Words}
use Rattle.am_syntax.specs.declared.written.WrittenTerm.{WrittenTerm}
use Rattle.am_syntax.specs.declared.written.WrittenTerm.TheVariants.{Alone}
use Rattle.am_syntax.specs.declared.written.WrittenAtom.TheVariants.{Equation, Relation}
use Rattle.am_syntax.specs.declared.written.WrittenFormula.{WrittenFormula}
use Rattle.am_syntax.specs.declared.written.WrittenFormula.TheVariants as made
use Rattle.am_syntax.specs.Shapes.{may_stand, term_of, formula_of}
use Rattle.am_syntax.specs.Heads.{word_of}
use Rattle.am_syntax.specs.Forms.{all_true, is_some_list, is_spellable, is_spellable_formula}
use Rattle.am_syntax.specs.ShapeLaws.{ReadTermIsSpellable, ReadFormulaIsSpellable}
use Rattle.am_syntax.proofs.ShapeEquations.{no_term, no_formula, node_term, node_formula, term-at, term-Word, term-Number, term-Text, term-nil, term-cons, formula-at, formula-Word, formula-Number, formula-Text, formula-nil}
use Rattle.am_syntax.proofs.SpelledRead.{all_in}
use Rattle.am_syntax.proofs.Members.{AreEach, Matched, all_matched, headed_is, of_list}
use Rattle.am_syntax.proofs.FormEquations.{spellable-Alone, spellable-Headed, spellable-Atom, spellable-Not, spellable-And, spellable-Or, spellable-Implies, spellable-Iff, spellable-Quantified}

abbrev a_term : WrittenTerm → Option WrittenTerm
a_term t = Some t

abbrev a_formula : WrittenFormula → Option WrittenFormula
a_formula f = Some f

and_both : (a b : Bool) → a ≡ true → b ≡ true → (a && b) ≡ true
and_both a b e f = rw (e, f) refl

first_true : (a b : Bool) → (a && b) ≡ true → a ≡ true
first_true true b e = refl
first_true false b e = absurd cc

pair_true : (a b : Bool) → (a && (b && true)) ≡ true → (a && b) ≡ true
pair_true true true e = refl
pair_true true false e = absurd cc
pair_true false b e = absurd cc

some_map : {A B : Type 0} (f : A → B) (xs : List A) → is_some_list (map f xs) ≡ is_some_list xs
some_map f [] = refl
some_map f (x ∷ xs) = refl

-- members of which each passes a test
module _ (A B : Type 0) (f : A → Option B) (good : B → Bool) where
  abbrev pub Passes : A → B → Type 0
  Passes x y = good y ≡ true

  pub all_pass : (xs : List A) (ys : List B) → Matched A B f Passes xs ys → all_true (map good ys) ≡ true
  all_pass [] [] h = refl
  all_pass [] (y ∷ ys) h = absurd h
  all_pass (x ∷ xs) [] h = absurd h
  all_pass (x ∷ xs) (y ∷ ys) h = and_both (good y) (all_true (map good ys)) h.0 (all_pass xs ys h.1)

-- ---- terms
abbrev TermFits : Words → Form → Type 0
TermFits words f = (t : WrittenTerm) → term_of words f ≡ a_term t → is_spellable words t ≡ true

abbrev NodeFits : Words → FormNode → Type 0
NodeFits words n = (t : WrittenTerm) → node_term words n ≡ a_term t → is_spellable words t ≡ true

abbrev TermPasses : Words → Form → WrittenTerm → Type 0
TermPasses words = Passes Form WrittenTerm (term_of words) (is_spellable words)

abbrev TermsFit : Words → List Form → Type 0
TermsFit words = AreEach Form WrittenTerm (term_of words) (TermPasses words)

abbrev GoodTerms : Words → List WrittenTerm → Type 0
GoodTerms words ts = all_true (map (is_spellable words) ts) ≡ true

word_by : (words : Words) (w : List ℕ) (b : Bool) (t : WrittenTerm) → may_stand words w ≡ b → (if b then Some (Alone w) else no_term) ≡ a_term t → is_spellable words t ≡ true
word_by words w true t e f = subst (λ (u : WrittenTerm). is_spellable words u ≡ true) (let g : Alone w ≡ t = cc in g) (spellable-Alone words w ∙ e)
word_by words w false t e f = absurd cc

list_fits : (words : Words) (fs : List Form) → TermsFit words fs → NodeFits words (node.List fs)
list_fits words [] h t e = absurd (let g : no_term ≡ a_term t = sym (term-nil words) ∙ e in cc)
list_fits words (f ∷ fs) h t e =
    let i = headed_is (word_of f.node) (map (term_of words) fs) t (sym (term-cons words f fs) ∙ e) in
    let m = all_pass Form WrittenTerm (term_of words) (is_spellable words) fs i.1 (all_matched Form WrittenTerm (term_of words) (TermPasses words) fs h.1 i.1 i.3) in
    subst (λ (u : WrittenTerm). is_spellable words u ≡ true) i.4 (spellable-Headed words i.0 i.1 ∙ and_both (is_name i.0) (is_some_list (map (is_spellable words) i.1) && all_true (map (is_spellable words) i.1)) i.5 (and_both (is_some_list (map (is_spellable words) i.1)) (all_true (map (is_spellable words) i.1)) (some_map (is_spellable words) i.1 ∙ i.6) m))

pub read_term_is_spellable : ReadTermIsSpellable
read_term_is_spellable = λ words. form_induct (NodeFits words) (TermFits words) (TermsFit words)
    (λ w t e. word_by words w (may_stand words w) t refl (sym (term-Word words w) ∙ e))
    (λ n t e. absurd (let g : no_term ≡ a_term t = sym (term-Number words n) ∙ e in cc))
    (λ x t e. absurd (let g : no_term ≡ a_term t = sym (term-Text words x) ∙ e in cc))
    (list_fits words)
    (λ p n h t e. h t (sym (term-at words (record { place = p; node = n })) ∙ e))
    tt
    (λ f fs h k. (h, k))

terms_fit : (words : Words) (fs : List Form) → TermsFit words fs
terms_fit words [] = tt
terms_fit words (f ∷ fs) = (read_term_is_spellable words f, terms_fit words fs)

-- ---- formulas
abbrev Fits : Words → WrittenFormula → Type 0
Fits words g = is_spellable_formula words g ≡ true

abbrev FormulaFits : Words → Form → Type 0
FormulaFits words f = (g : WrittenFormula) → formula_of words f ≡ a_formula g → Fits words g

abbrev NodeFormulaFits : Words → FormNode → Type 0
NodeFormulaFits words n = (g : WrittenFormula) → node_formula words n ≡ a_formula g → Fits words g

abbrev FormulaPasses : Words → Form → WrittenFormula → Type 0
FormulaPasses words = Passes Form WrittenFormula (formula_of words) (is_spellable_formula words)

abbrev FormulasFit : Words → List Form → Type 0
FormulasFit words = AreEach Form WrittenFormula (formula_of words) (FormulaPasses words)

abbrev GoodFormulas : Words → List WrittenFormula → Type 0
GoodFormulas words fs = all_true (map (is_spellable_formula words) fs) ≡ true

word_formula_by : (words : Words) (w : List ℕ) (b : Bool) (g : WrittenFormula) → is_name w ≡ b → (if b then Some (made.Atom (Relation w [])) else no_formula) ≡ a_formula g → Fits words g
word_formula_by words w true g e f = subst (Fits words) (let p : made.Atom (Relation w []) ≡ g = cc in p) (spellable-Atom words (Relation w []) ∙ and_both (is_name w) true e refl)
word_formula_by words w false g e f = absurd cc

fits_relation : (words : Words) (n : List ℕ) (t : WrittenTerm) (ts : List WrittenTerm) → is_name n ≡ true → GoodTerms words (t ∷ ts) → Fits words (made.Atom (Relation n (t ∷ ts)))
fits_relation words n t ts e h = spellable-Atom words (Relation n (t ∷ ts)) ∙ and_both (is_name n) (list_all (is_spellable words) (t ∷ ts)) e (all_in (is_spellable words) (t ∷ ts) ∙ h)

list_formula_fits : (words : Words) (fs : List Form) → FormulasFit words fs → NodeFormulaFits words (node.List fs)
list_formula_fits words [] h g e = absurd (let p : no_formula ≡ a_formula g = sym (formula-nil words) ∙ e in cc)
list_formula_fits words (f ∷ fs) h g e =
    of_list (Fits words) (GoodTerms words) (GoodFormulas words)
    (λ x k. spellable-Not words x ∙ first_true (is_spellable_formula words x) true k)
    (λ x xs k. spellable-And words (x ∷ xs) ∙ k)
    (λ x xs k. spellable-Or words (x ∷ xs) ∙ k)
    (λ x y k. spellable-Implies words x y ∙ pair_true (is_spellable_formula words x) (is_spellable_formula words y) k)
    (λ x y k. spellable-Iff words x y ∙ pair_true (is_spellable_formula words x) (is_spellable_formula words y) k)
    (λ t u k. spellable-Atom words (Equation t u) ∙ pair_true (is_spellable words t) (is_spellable words u) k)
    (fits_relation words)
    (spellable-Quantified words) words f fs g
    (λ ts i. all_pass Form WrittenTerm (term_of words) (is_spellable words) fs ts (all_matched Form WrittenTerm (term_of words) (TermPasses words) fs (terms_fit words fs) ts i))
    (λ gs i. all_pass Form WrittenFormula (formula_of words) (is_spellable_formula words) fs gs (all_matched Form WrittenFormula (formula_of words) (FormulaPasses words) fs h.1 gs i))
    e

pub read_formula_is_spellable : ReadFormulaIsSpellable
read_formula_is_spellable = λ words. form_induct (NodeFormulaFits words) (FormulaFits words) (FormulasFit words)
    (λ w g e. word_formula_by words w (is_name w) g refl (sym (formula-Word words w) ∙ e))
    (λ n g e. absurd (let p : no_formula ≡ a_formula g = sym (formula-Number words n) ∙ e in cc))
    (λ x g e. absurd (let p : no_formula ≡ a_formula g = sym (formula-Text words x) ∙ e in cc))
    (list_formula_fits words)
    (λ p n h g e. h g (sym (formula-at words (record { place = p; node = n })) ∙ e))
    tt
    (λ f fs h k. (h, k))
