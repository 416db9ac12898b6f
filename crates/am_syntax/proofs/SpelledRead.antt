-- Terms and formulas that can be forms are read from their forms.
use Rattle.std.proofs.Common.{◌≡◌, ℕ, Bool, true, false, List, [], ◌∷◌, map, Option, Some, None, refl, sym, ap, subst, ◌∙◌}
use Rattle.std.specs.Prelude.{◌&&◌, ◌||◌, codes, option_map, if◌then◌else◌}
use Rattle.std.specs.List.{list_all}
use Rattle.std.specs.Str.{bytes_eq}
use Rattle.am_term.specs.Names.{is_name}
use Rattle.am_text.specs.declared.form.Form.{Form}
use Rattle.am_text.proofs.Runs.{both}
use Rattle.am_syntax.specs.declared.written.Words.{Words}
use Rattle.am_syntax.specs.declared.written.WrittenTerm.{WrittenTerm}
use Rattle.am_syntax.specs.declared.written.WrittenTerm.TheVariants.{Alone, Headed}
use Rattle.am_syntax.specs.declared.written.WrittenAtom.{WrittenAtom}
use Rattle.am_syntax.specs.declared.written.WrittenAtom.TheVariants.{Equation, Relation}
use Rattle.am_syntax.specs.declared.written.WrittenFormula.{WrittenFormula}
use Rattle.am_syntax.specs.declared.written.WrittenFormula.TheVariants as made
use Rattle.am_syntax.specs.declared.shapes.Head.{Head}
use Rattle.am_syntax.specs.declared.shapes.Head.TheVariants.{Related}
use Rattle.am_syntax.specs.Induct.{written_term_induct}
use Rattle.am_syntax.specs.InductFormula.{written_formula_induct}
use Rattle.am_syntax.specs.Shapes.{with_first, all_of, some_of, pair_of, headed_term, headed_formula, term_of, formula_of}
use Rattle.am_syntax.specs.Heads.{term_by, formula_by, kind_of, name_of, some_in, relation_from, formula_of_head, word_as_term, word_as_formula}
use Rattle.am_syntax.specs.Forms.{word_form, headed_form, term_form, atom_form, formula_form, is_some_list, all_true, is_spellable, is_spellable_atom, is_spellable_formula}
use Rattle.am_syntax.specs.Flaws.{any_true, has_quantifier}
use Rattle.am_syntax.specs.ShapeLaws.{SpelledTermIsRead, SpelledFormulaIsRead}
use Rattle.am_syntax.proofs.Positions.{same}
use Rattle.am_syntax.proofs.ShapeEquations.{no_term, no_formula, some_is, term-at, term-Word, term-cons, formula-at, formula-Word, formula-cons, word-Word}
use Rattle.am_syntax.proofs.FormulaEquations.{formula-head}
use Rattle.am_syntax.proofs.FormEquations.{form-Alone, form-Headed, form-Atom, form-Not, form-And, form-Or, form-Implies, form-Iff, spellable-Alone, spellable-Headed, spellable-Atom, spellable-Not, spellable-And, spellable-Or, spellable-Implies, spellable-Iff, quantifier-Not, quantifier-And, quantifier-Or, quantifier-Implies, quantifier-Iff, quantifier-Quantified}

-- ---- what a word and a list are
pub term_of_word : (words : Words) (w : List ℕ) → term_of words (word_form w) ≡ word_as_term words w
term_of_word words w = term-at words (word_form w) ∙ term-Word words w

pub term_of_list : (words : Words) (h : List ℕ) (fs : List Form) → term_of words (headed_form h fs) ≡ headed_term h (map (term_of words) fs)
term_of_list words h fs = term-at words (headed_form h fs) ∙ term-cons words (word_form h) fs ∙ ap (λ (w : Option (List ℕ)). term_by w (map (term_of words) fs)) (word-Word h)

pub formula_of_word : (words : Words) (w : List ℕ) → formula_of words (word_form w) ≡ word_as_formula w
formula_of_word words w = formula-at words (word_form w) ∙ formula-Word words w

pub formula_of_list : (words : Words) (h : List ℕ) (fs : List Form) → formula_of words (headed_form h fs) ≡ headed_formula h (map (term_of words) fs) (map (formula_of words) fs)
formula_of_list words h fs = formula-at words (headed_form h fs) ∙ formula-cons words (word_form h) fs ∙ ap (λ (w : Option (List ℕ)). formula_by w (map (term_of words) fs) (map (formula_of words) fs)) (word-Word h)

-- ---- members
abbrev a_term : WrittenTerm → Option WrittenTerm
a_term t = Some t

abbrev a_formula : WrittenFormula → Option WrittenFormula
a_formula f = Some f

some_there : {A : Type 0} (f : A → Bool) (xs : List A) → is_some_list (map f xs) ≡ true → some_in (Some xs) ≡ Some xs
some_there f [] e = absurd cc
some_there f (x ∷ xs) e = refl

-- ---- terms
abbrev TermIsRead : Words → WrittenTerm → Type 0
TermIsRead words t = is_spellable words t ≡ true → term_of words (term_form t) ≡ a_term t

abbrev TermsAreRead : Words → List WrittenTerm → Type 0
TermsAreRead words ts = all_true (map (is_spellable words) ts) ≡ true → all_of (map (term_of words) (map term_form ts)) ≡ Some ts

read_alone : (words : Words) (w : List ℕ) → TermIsRead words (Alone w)
read_alone words w ok = ap (term_of words) (form-Alone w) ∙ term_of_word words w ∙ ap (λ (b : Bool). if b then Some (Alone w) else no_term) (sym (spellable-Alone words w) ∙ ok)

named_term : (words : Words) (h : List ℕ) (args : List WrittenTerm) → is_name h ≡ true → is_some_list (map (is_spellable words) args) ≡ true → all_of (map (term_of words) (map term_form args)) ≡ Some args → headed_term h (map (term_of words) (map term_form args)) ≡ a_term (Headed h args)
named_term words h args n s e =
    ap (λ (b : Bool). if b then option_map (Headed h) (some_of (map (term_of words) (map term_form args))) else no_term) n
    ∙ ap (option_map (Headed h)) (some_is (map (term_of words) (map term_form args)) ∙ ap some_in e ∙ some_there (is_spellable words) args s)

read_headed : (words : Words) (h : List ℕ) (args : List WrittenTerm) → TermsAreRead words args → TermIsRead words (Headed h args)
read_headed words h args law ok =
    let s = both (is_name h) (is_some_list (map (is_spellable words) args) && all_true (map (is_spellable words) args)) (sym (spellable-Headed words h args) ∙ ok) in
    let m = both (is_some_list (map (is_spellable words) args)) (all_true (map (is_spellable words) args)) s.1 in
    ap (term_of words) (form-Headed h args) ∙ term_of_list words h (map term_form args) ∙ named_term words h args s.0 m.0 (law m.1)

read_none : (words : Words) → TermsAreRead words []
read_none words ok = refl

read_more : (words : Words) (t : WrittenTerm) (ts : List WrittenTerm) → TermIsRead words t → TermsAreRead words ts → TermsAreRead words (t ∷ ts)
read_more words t ts law laws ok =
    let s = both (is_spellable words t) (all_true (map (is_spellable words) ts)) ok in
    ap (λ (x : Option WrittenTerm). with_first x (all_of (map (term_of words) (map term_form ts)))) (law s.0) ∙ ap (with_first (a_term t)) (laws s.1)

pub spelled_term_is_read : SpelledTermIsRead
spelled_term_is_read = λ words. written_term_induct (TermIsRead words) (TermsAreRead words) (read_alone words) (read_headed words) (read_none words) (read_more words)

pub spelled_terms_are_read : (words : Words) (ts : List WrittenTerm) → TermsAreRead words ts
spelled_terms_are_read words [] = read_none words
spelled_terms_are_read words (t ∷ ts) = read_more words t ts (spelled_term_is_read words t) (spelled_terms_are_read words ts)

-- ---- a name is none of the words of formulas
by_test : (b : Bool) → (b ≡ true → ⊥) → b ≡ false
by_test true h = absurd (h refl)
by_test false h = refl

no_word : (n c : List ℕ) → is_name n ≡ true → is_name c ≡ false → bytes_eq n c ≡ false
no_word n c ok no_c = by_test (bytes_eq n c) (λ e. let f : is_name c ≡ true = subst (λ (x : List ℕ). is_name x ≡ true) (same n c e) ok in cc)

pub name_kind : (n : List ℕ) → is_name n ≡ true → kind_of n ≡ Related
unfolding is_name
name_kind n ok =
    let e1 = no_word n (codes "not") ok refl in
    let e2 = no_word n (codes "and") ok refl in
    let e3 = no_word n (codes "or") ok refl in
    let e4 = no_word n (codes "=>") ok refl in
    let e5 = no_word n (codes "<=>") ok refl in
    let e6 = no_word n (codes "=") ok refl in
    let e7 = no_word n (codes "all") ok refl in
    let e8 = no_word n (codes "exists") ok refl in
    rw (e1, e2, e3, e4, e5, e6, e7, e8, ok) refl

-- ---- atoms
pub all_in : {A : Type 0} (test : A → Bool) (xs : List A) → list_all test xs ≡ all_true (map test xs)
all_in test [] = refl
all_in test (x ∷ xs) = ap (λ (b : Bool). test x && b) (all_in test xs)

abbrev related : List ℕ → List WrittenTerm → WrittenFormula
related n args = made.Atom (Relation n args)

named_formula : (n : List ℕ) (terms : List (Option WrittenTerm)) (formulas : List (Option WrittenFormula)) (t : WrittenTerm) (ts : List WrittenTerm) → is_name n ≡ true → all_of terms ≡ Some (t ∷ ts) → headed_formula n terms formulas ≡ a_formula (related n (t ∷ ts))
named_formula n terms formulas t ts ok e =
    formula-head (Some n) terms formulas
    ∙ ap (λ (k : Head). formula_of_head k (name_of (Some n)) terms formulas) (name_kind n ok)
    ∙ ap (λ (b : Bool). relation_from (if b then Some n else None) (all_of terms)) ok
    ∙ ap (relation_from (Some n)) e

abbrev AtomIsRead : Words → WrittenAtom → Type 0
AtomIsRead words a = is_spellable_atom words a ≡ true → formula_of words (atom_form a) ≡ a_formula (made.Atom a)

abbrev equated : WrittenTerm → WrittenTerm → WrittenFormula
equated left right = made.Atom (Equation left right)

pub spelled_atom_is_read : (words : Words) (a : WrittenAtom) → AtomIsRead words a
spelled_atom_is_read words (Equation left right) ok =
    let s = both (is_spellable words left) (is_spellable words right) ok in
    formula_of_list words (codes "=") (term_form left ∷ term_form right ∷ [])
    ∙ ap (λ (x : Option WrittenTerm). pair_of equated x (term_of words (term_form right))) (spelled_term_is_read words left s.0)
    ∙ ap (pair_of equated (Some left)) (spelled_term_is_read words right s.1)
spelled_atom_is_read words (Relation n []) ok =
    let s = both (is_name n) true ok in
    formula_of_word words n ∙ ap (λ (b : Bool). if b then Some (related n []) else no_formula) s.0
spelled_atom_is_read words (Relation n (t ∷ ts)) ok =
    let s = both (is_name n) (list_all (is_spellable words) (t ∷ ts)) ok in
    formula_of_list words n (map term_form (t ∷ ts))
    ∙ named_formula n (map (term_of words) (map term_form (t ∷ ts))) (map (formula_of words) (map term_form (t ∷ ts))) t ts s.0 (spelled_terms_are_read words (t ∷ ts) (sym (all_in (is_spellable words) (t ∷ ts)) ∙ s.1))

-- ---- formulas
neither : (a b : Bool) → (a || b) ≡ false → (a ≡ false) × (b ≡ false)
neither true b e = absurd cc
neither false b e = (refl, e)

abbrev FormulaIsRead : Words → WrittenFormula → Type 0
FormulaIsRead words f = is_spellable_formula words f ≡ true → has_quantifier f ≡ false → formula_of words (formula_form f) ≡ a_formula f

abbrev FormulasAreRead : Words → List WrittenFormula → Type 0
FormulasAreRead words fs = all_true (map (is_spellable_formula words) fs) ≡ true → any_true (map has_quantifier fs) ≡ false → all_of (map (formula_of words) (map formula_form fs)) ≡ Some fs

read_atom : (words : Words) (a : WrittenAtom) → FormulaIsRead words (made.Atom a)
read_atom words a ok free = ap (formula_of words) (form-Atom a) ∙ spelled_atom_is_read words a (sym (spellable-Atom words a) ∙ ok)

read_not : (words : Words) (f : WrittenFormula) → FormulaIsRead words f → FormulaIsRead words (made.Not f)
read_not words f law ok free =
    ap (formula_of words) (form-Not f) ∙ formula_of_list words (codes "not") (formula_form f ∷ [])
    ∙ ap (option_map made.Not) (law (sym (spellable-Not words f) ∙ ok) (sym (quantifier-Not f) ∙ free))

read_and : (words : Words) (fs : List WrittenFormula) → FormulasAreRead words fs → FormulaIsRead words (made.And fs)
read_and words fs law ok free =
    let s = both (is_some_list (map (is_spellable_formula words) fs)) (all_true (map (is_spellable_formula words) fs)) (sym (spellable-And words fs) ∙ ok) in
    ap (formula_of words) (form-And fs) ∙ formula_of_list words (codes "and") (map formula_form fs)
    ∙ ap (option_map made.And) (some_is (map (formula_of words) (map formula_form fs)) ∙ ap some_in (law s.1 (sym (quantifier-And fs) ∙ free)) ∙ some_there (is_spellable_formula words) fs s.0)

read_or : (words : Words) (fs : List WrittenFormula) → FormulasAreRead words fs → FormulaIsRead words (made.Or fs)
read_or words fs law ok free =
    let s = both (is_some_list (map (is_spellable_formula words) fs)) (all_true (map (is_spellable_formula words) fs)) (sym (spellable-Or words fs) ∙ ok) in
    ap (formula_of words) (form-Or fs) ∙ formula_of_list words (codes "or") (map formula_form fs)
    ∙ ap (option_map made.Or) (some_is (map (formula_of words) (map formula_form fs)) ∙ ap some_in (law s.1 (sym (quantifier-Or fs) ∙ free)) ∙ some_there (is_spellable_formula words) fs s.0)

read_implies : (words : Words) (f g : WrittenFormula) → FormulaIsRead words f → FormulaIsRead words g → FormulaIsRead words (made.Implies f g)
read_implies words f g law more ok free =
    let s = both (is_spellable_formula words f) (is_spellable_formula words g) (sym (spellable-Implies words f g) ∙ ok) in
    let n = neither (has_quantifier f) (has_quantifier g) (sym (quantifier-Implies f g) ∙ free) in
    ap (formula_of words) (form-Implies f g) ∙ formula_of_list words (codes "=>") (formula_form f ∷ formula_form g ∷ [])
    ∙ ap (λ (x : Option WrittenFormula). pair_of made.Implies x (formula_of words (formula_form g))) (law s.0 n.0)
    ∙ ap (pair_of made.Implies (Some f)) (more s.1 n.1)

read_iff : (words : Words) (f g : WrittenFormula) → FormulaIsRead words f → FormulaIsRead words g → FormulaIsRead words (made.Iff f g)
read_iff words f g law more ok free =
    let s = both (is_spellable_formula words f) (is_spellable_formula words g) (sym (spellable-Iff words f g) ∙ ok) in
    let n = neither (has_quantifier f) (has_quantifier g) (sym (quantifier-Iff f g) ∙ free) in
    ap (formula_of words) (form-Iff f g) ∙ formula_of_list words (codes "<=>") (formula_form f ∷ formula_form g ∷ [])
    ∙ ap (λ (x : Option WrittenFormula). pair_of made.Iff x (formula_of words (formula_form g))) (law s.0 n.0)
    ∙ ap (pair_of made.Iff (Some f)) (more s.1 n.1)

read_quantified : (words : Words) → FormulaIsRead words made.Quantified
read_quantified words ok free = absurd (let e : true ≡ false = sym quantifier-Quantified ∙ free in cc)

no_formulas : (words : Words) → FormulasAreRead words []
no_formulas words ok free = refl

more_formulas : (words : Words) (f : WrittenFormula) (fs : List WrittenFormula) → FormulaIsRead words f → FormulasAreRead words fs → FormulasAreRead words (f ∷ fs)
more_formulas words f fs law laws ok free =
    let s = both (is_spellable_formula words f) (all_true (map (is_spellable_formula words) fs)) ok in
    let n = neither (has_quantifier f) (any_true (map has_quantifier fs)) free in
    ap (λ (x : Option WrittenFormula). with_first x (all_of (map (formula_of words) (map formula_form fs)))) (law s.0 n.0) ∙ ap (with_first (a_formula f)) (laws s.1 n.1)

pub spelled_formula_is_read : SpelledFormulaIsRead
spelled_formula_is_read = λ words. written_formula_induct (FormulaIsRead words) (FormulasAreRead words) (read_atom words) (read_not words) (read_and words) (read_or words) (read_implies words) (read_iff words) (read_quantified words) (no_formulas words) (more_formulas words)
