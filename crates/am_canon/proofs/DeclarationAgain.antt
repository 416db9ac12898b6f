-- Declarations that can be forms are read from their forms.
use Rattle.std.proofs.Common.{◌≡◌, ℕ, Bool, true, false, List, [], ◌∷◌, map, Option, Some, None, refl, sym, ap, subst, ◌∙◌}
use Rattle.std.specs.Prelude.{◌&&◌, ℤ, not, codes, option_map}
use Rattle.std.specs.List.{list_all}
use Rattle.std.specs.Str.{bytes_eq}
use Rattle.am_term.specs.Names.{is_name}
use Rattle.am_text.specs.declared.form.Form.{Form}
use Rattle.am_text.specs.Spelling.{is_word}
use Rattle.am_text.proofs.Runs.{both}
use Rattle.am_syntax.specs.declared.written.Words.TheVariants.{Names}
use Rattle.am_syntax.specs.declared.written.WrittenAtom.{WrittenAtom}
use Rattle.am_syntax.specs.declared.written.WrittenAtom.TheVariants as atom
use Rattle.am_syntax.specs.declared.written.WrittenFormula.{WrittenFormula}
use Rattle.am_syntax.specs.declared.written.WrittenFormula.TheVariants as made
use Rattle.am_syntax.specs.InductFormula.{written_formula_induct}
use Rattle.am_syntax.specs.Flaws.{has_quantifier}
use Rattle.am_syntax.specs.Forms.{word_form, list_form, headed_form, term_form, formula_form, is_some_list, is_spellable, is_spellable_formula}
use Rattle.am_syntax.specs.Shapes.{all_of, some_of}
use Rattle.am_syntax.proofs.FormEquations.{form-Atom, form-Not, form-And, form-Or, form-Implies, form-Iff, spellable-Atom, quantifier-Quantified}
use Rattle.am_syntax.proofs.Positions.{same}
use Rattle.am_syntax.proofs.SpelledRead.{spelled_formula_is_read}
use Rattle.am_theory.specs.declared.theory.LitValue.{LitValue}
use Rattle.am_theory.specs.declared.theory.LitValue.TheVariants as value
use Rattle.am_theory.specs.declared.declaration.WrittenRep.{WrittenRep}
use Rattle.am_theory.specs.declared.declaration.WrittenRep.TheVariants as written
use Rattle.am_theory.specs.declared.declaration.Typed.{Typed}
use Rattle.am_theory.specs.declared.declaration.Declaration.{Declaration}
use Rattle.am_theory.specs.declared.declaration.Declaration.TheVariants as decl
use Rattle.am_canon.specs.CanonicalText.{number_form, value_form, names_form, typed_form, rep_form, decl_form}
use Rattle.am_theory.specs.Declarations.{word_of, number_of, value_of, list_of, name_of, names_of, typed_of, written_rep_of, axiom_by, plain_axiom, decl_of}
use Rattle.am_canon.specs.Spellable.{is_spellable_declaration}
use Rattle.am_theory.specs.Traces.{is_typed, is_rep_with, is_written_value}
use Rattle.am_theory.proofs.FormParts.{no_word, no_forms, word-at, word-Word, word-List, number-at, number-Number, value-at, value-Number, value-Text, list-at, list-Word, list-List}

-- ---- parts
pub word-form : (w : List ℕ) → word_of (word_form w) ≡ Some w
word-form w = word-at (word_form w) ∙ word-Word w

pub word-list : (fs : List Form) → word_of (list_form fs) ≡ no_word
word-list fs = word-at (list_form fs) ∙ word-List fs

pub list-form : (fs : List Form) → list_of (list_form fs) ≡ Some fs
list-form fs = list-at (list_form fs) ∙ list-List fs

pub list-word : (w : List ℕ) → list_of (word_form w) ≡ no_forms
list-word w = list-at (word_form w) ∙ list-Word w

pub number-form : (n : ℤ) → number_of (number_form n) ≡ Some n
number-form n = number-at (number_form n) ∙ number-Number n

pub value-form : (v : LitValue) → value_of (value_form v) ≡ Some v
value-form (value.Int n) = value-at (number_form n) ∙ value-Number n
value-form (value.Text t) = value-at (value_form (value.Text t)) ∙ value-Text t

pub name-form : (n : List ℕ) → is_name n ≡ true → name_of (word_form n) ≡ Some n
unfolding name_of
name-form n e = rw (word-form n, e) refl

abbrev all_are : {A : Type 0} → List A → Option (List A)
all_are xs = Some xs

all_names : (ns : List (List ℕ)) → list_all is_name ns ≡ true → all_of (map name_of (map word_form ns)) ≡ all_are ns
all_names [] e = refl
all_names (n ∷ ns) e =
    let s = both (is_name n) (list_all is_name ns) e in
    rw (name-form n s.0, all_names ns s.1) refl

pub names-form : (ns : List (List ℕ)) → list_all is_name ns ≡ true → names_of (names_form ns) ≡ all_are ns
unfolding names_of
names-form ns e = rw (list-form (map word_form ns)) (all_names ns e)

pub typed-form : (v : Typed) → is_typed v ≡ true → typed_of (typed_form v) ≡ Some v
unfolding typed_of
typed-form v e =
    let s = both (is_name v.name) (is_name v.sort) e in
    rw (list-form (word_form v.name ∷ word_form v.sort ∷ []), name-form v.name s.0, name-form v.sort s.1) refl

pub all_typed : (vs : List Typed) → list_all is_typed vs ≡ true → all_of (map typed_of (map typed_form vs)) ≡ all_are vs
all_typed [] e = refl
all_typed (v ∷ vs) e =
    let s = both (is_typed v) (list_all is_typed vs) e in
    rw (typed-form v s.0, all_typed vs s.1) refl

pub some_typed : (vs : List Typed) → list_all is_typed vs ≡ true → is_some_list vs ≡ true → some_of (map typed_of (map typed_form vs)) ≡ all_are vs
some_typed [] e k = absurd cc
some_typed (v ∷ vs) e k = all_typed (v ∷ vs) e

pub rep-form : (r : WrittenRep) → written_rep_of (rep_form r) ≡ Some r
unfolding written_rep_of
rep-form written.Double = rw (word-form (codes "double")) refl
rep-form written.Integer = rw (word-form (codes "integer")) refl
rep-form written.Logical = rw (word-form (codes "logical")) refl
rep-form (written.Char n) = rw (word-list (word_form (codes "char") ∷ number_form n ∷ []), list-form (word_form (codes "char") ∷ number_form n ∷ []), word-form (codes "char"), number-form n) refl
rep-form (written.DoubleVec m) = rw (word-list (word_form (codes "double") ∷ number_form m ∷ []), list-form (word_form (codes "double") ∷ number_form m ∷ []), word-form (codes "double"), number-form m) refl
rep-form (written.DoubleMat m n) = rw (word-list (word_form (codes "double") ∷ number_form m ∷ number_form n ∷ []), list-form (word_form (codes "double") ∷ number_form m ∷ number_form n ∷ []), word-form (codes "double"), number-form m, number-form n) refl
rep-form (written.IntegerVec m) = rw (word-list (word_form (codes "integer") ∷ number_form m ∷ []), list-form (word_form (codes "integer") ∷ number_form m ∷ []), word-form (codes "integer"), number-form m) refl

-- ---- an axiom whose formula begins with no `all`
abbrev IsPlain : Form → Type 0
IsPlain f = axiom_by f (list_of f) ≡ plain_axiom f

by_test : (b : Bool) → (b ≡ true → ⊥) → b ≡ false
by_test true h = absurd (h refl)
by_test false h = refl

name_not_all : (n : List ℕ) → is_name n ≡ true → bytes_eq n (codes "all") ≡ false
unfolding is_name
name_not_all n ok = by_test (bytes_eq n (codes "all")) (λ e. let f : is_name (codes "all") ≡ true = subst (λ (x : List ℕ). is_name x ≡ true) (same n (codes "all") e) ok in cc)

headed_plain : (h : List ℕ) (fs : List Form) → bytes_eq h (codes "all") ≡ false → IsPlain (headed_form h fs)
headed_plain h fs e = rw (list-form (word_form h ∷ fs), word-form h, e) refl

word_plain : (w : List ℕ) → IsPlain (word_form w)
word_plain w = rw (list-word w) refl

abbrev FormulaIsPlain : WrittenFormula → Type 0
FormulaIsPlain g = is_spellable_formula Names g ≡ true → has_quantifier g ≡ false → IsPlain (formula_form g)

atom_plain : (a : WrittenAtom) → FormulaIsPlain (made.Atom a)
atom_plain (atom.Equation left right) ok free = subst IsPlain (sym (form-Atom (atom.Equation left right))) (headed_plain (codes "=") (term_form left ∷ term_form right ∷ []) refl)
atom_plain (atom.Relation n []) ok free = subst IsPlain (sym (form-Atom (atom.Relation n []))) (word_plain n)
atom_plain (atom.Relation n (t ∷ ts)) ok free =
    let s = both (is_name n) (list_all (is_spellable Names) (t ∷ ts)) (sym (spellable-Atom Names (atom.Relation n (t ∷ ts))) ∙ ok) in
    subst IsPlain (sym (form-Atom (atom.Relation n (t ∷ ts)))) (headed_plain n (map term_form (t ∷ ts)) (name_not_all n s.0))

formula_plain : (g : WrittenFormula) → FormulaIsPlain g
formula_plain = written_formula_induct FormulaIsPlain (λ gs. Unit {0}) atom_plain
    (λ g h ok free. subst IsPlain (sym (form-Not g)) (headed_plain (codes "not") (formula_form g ∷ []) refl))
    (λ gs h ok free. subst IsPlain (sym (form-And gs)) (headed_plain (codes "and") (map formula_form gs) refl))
    (λ gs h ok free. subst IsPlain (sym (form-Or gs)) (headed_plain (codes "or") (map formula_form gs) refl))
    (λ g k h hs ok free. subst IsPlain (sym (form-Implies g k)) (headed_plain (codes "=>") (formula_form g ∷ formula_form k ∷ []) refl))
    (λ g k h hs ok free. subst IsPlain (sym (form-Iff g k)) (headed_plain (codes "<=>") (formula_form g ∷ formula_form k ∷ []) refl))
    (λ ok free. absurd (let e : true ≡ false = sym quantifier-Quantified ∙ free in cc))
    tt (λ g gs h hs. tt)

-- ---- declarations
abbrev a_declaration : Declaration → Option Declaration
a_declaration d = Some d

free_of : (b : Bool) → not b ≡ true → b ≡ false
free_of true e = absurd cc
free_of false e = refl

sort_again : (n : List ℕ) (r : Option WrittenRep) (copy : Option (List ℕ)) → is_name n ≡ true → is_rep_with r copy ≡ true → decl_of (decl_form (decl.Sort n r copy)) ≡ a_declaration (decl.Sort n r copy)
unfolding decl_of decl_form
sort_again n None None e k = rw (list-form (word_form (codes "sort") ∷ word_form n ∷ []), word-form (codes "sort"), name-form n e) refl
sort_again n None (Some w) e k = absurd cc
sort_again n (Some r) None e k = rw (list-form (word_form (codes "sort") ∷ word_form n ∷ rep_form r ∷ []), word-form (codes "sort"), name-form n e, rep-form r) refl
sort_again n (Some r) (Some w) e k = rw (list-form (word_form (codes "sort") ∷ word_form n ∷ rep_form r ∷ word_form w ∷ []), word-form (codes "sort"), name-form n e, rep-form r, word-form w) refl

plain_again : (g : WrittenFormula) → is_spellable_formula Names g ≡ true → has_quantifier g ≡ false → axiom_by (formula_form g) (list_of (formula_form g)) ≡ a_declaration (decl.Axiom [] g)
plain_again g ok free = formula_plain g ok free ∙ ap (option_map (λ (x : WrittenFormula). decl.Axiom [] x)) (spelled_formula_is_read Names g ok free)

axiom_again : (vs : List Typed) (g : WrittenFormula) → list_all is_typed vs ≡ true → is_spellable_formula Names g ≡ true → has_quantifier g ≡ false → decl_of (decl_form (decl.Axiom vs g)) ≡ a_declaration (decl.Axiom vs g)
unfolding decl_of decl_form
axiom_again [] g e ok free = rw (list-form (word_form (codes "axiom") ∷ formula_form g ∷ []), word-form (codes "axiom")) (plain_again g ok free)
axiom_again (v ∷ vs) g e ok free =
    rw (list-form (word_form (codes "axiom") ∷ headed_form (codes "all") (list_form (map typed_form (v ∷ vs)) ∷ formula_form g ∷ []) ∷ []), word-form (codes "axiom"), list-form (word_form (codes "all") ∷ list_form (map typed_form (v ∷ vs)) ∷ formula_form g ∷ []), word-form (codes "all"), list-form (map typed_form (v ∷ vs)), all_typed (v ∷ vs) e, spelled_formula_is_read Names g ok free) refl

pub declaration_again : (d : Declaration) → is_spellable_declaration d ≡ true → decl_of (decl_form d) ≡ Some d
unfolding decl_of decl_form
declaration_again (decl.Sort n r copy) e =
    let s = both (is_name n) (is_rep_with r copy) e in
    sort_again n r copy s.0 s.1
declaration_again (decl.Subsort n s) e =
    let t = both (is_name n) (is_name s) e in
    rw (list-form (word_form (codes "subsort") ∷ word_form n ∷ word_form s ∷ []), word-form (codes "subsort"), name-form n t.0, name-form s t.1) refl
declaration_again (decl.Function n args r) e =
    let s = both (is_name n) (list_all is_name args && is_name r) e in
    let t = both (list_all is_name args) (is_name r) s.1 in
    rw (list-form (word_form (codes "function") ∷ word_form n ∷ names_form args ∷ word_form r ∷ []), word-form (codes "function"), name-form n s.0, names-form args t.0, name-form r t.1) refl
declaration_again (decl.Relation n args) e =
    let s = both (is_name n) (list_all is_name args) e in
    rw (list-form (word_form (codes "relation") ∷ word_form n ∷ names_form args ∷ []), word-form (codes "relation"), name-form n s.0, names-form args s.1) refl
declaration_again (decl.Literal n s v) e =
    let t = both (is_name n) (is_name s && is_written_value v) e in
    let u = both (is_name s) (is_written_value v) t.1 in
    rw (list-form (word_form (codes "literal") ∷ word_form n ∷ word_form s ∷ value_form v ∷ []), word-form (codes "literal"), name-form n t.0, name-form s u.0, value-form v) refl
declaration_again (decl.Routine n inputs outputs) e =
    let s = both (is_word n) (list_all is_name inputs && (list_all is_typed outputs && is_some_list outputs)) e in
    let t = both (list_all is_name inputs) (list_all is_typed outputs && is_some_list outputs) s.1 in
    let u = both (list_all is_typed outputs) (is_some_list outputs) t.1 in
    rw (list-form (word_form (codes "routine") ∷ word_form n ∷ names_form inputs ∷ map typed_form outputs), word-form (codes "routine"), word-form n, names-form inputs t.0, some_typed outputs u.0 u.1) refl
declaration_again (decl.Value w n args r) e =
    let s = both (is_word w) (is_name n && (list_all is_name args && is_name r)) e in
    let t = both (is_name n) (list_all is_name args && is_name r) s.1 in
    let u = both (list_all is_name args) (is_name r) t.1 in
    rw (list-form (word_form (codes "value") ∷ word_form w ∷ word_form n ∷ names_form args ∷ word_form r ∷ []), word-form (codes "value"), word-form w, name-form n t.0, names-form args u.0, name-form r u.1) refl
declaration_again (decl.Axiom vs g) e =
    let s = both (list_all is_typed vs) (is_spellable_formula Names g && not (has_quantifier g)) e in
    let t = both (is_spellable_formula Names g) (not (has_quantifier g)) s.1 in
    axiom_again vs g s.0 t.0 (free_of (has_quantifier g) t.1)
