-- The forms of declarations that can be forms can be written.
use Rattle.std.proofs.Common.{◌≡◌, ℕ, true, List, [], ◌∷◌, map, Option, Some, None, refl, ◌∙◌}
use Rattle.std.specs.Prelude.{◌&&◌, ℤ, not, codes}
use Rattle.std.specs.List.{list_all}
use Rattle.am_term.specs.Names.{is_name}
use Rattle.am_text.specs.declared.form.Form.{Form}
use Rattle.am_text.specs.declared.form.FormNode.TheVariants as node
use Rattle.am_text.specs.Spelling.{is_word, fits_word, is_writable}
use Rattle.am_text.proofs.Folds.{writable-Number, writable-Text, writable-List, writable-form}
use Rattle.am_text.proofs.Runs.{both}
use Rattle.am_syntax.specs.declared.written.Words.TheVariants.{Names}
use Rattle.am_syntax.specs.declared.written.WrittenFormula.{WrittenFormula}
use Rattle.am_syntax.specs.Flaws.{has_quantifier}
use Rattle.am_syntax.specs.Forms.{word_form, list_form, headed_form, formula_form, is_some_list, all_true, is_spellable_formula}
use Rattle.am_syntax.proofs.Writable.{name_is_word, word_writable, list_writable, spelled_formula_writable}
use Rattle.am_theory.specs.declared.theory.LitValue.{LitValue}
use Rattle.am_theory.specs.declared.theory.LitValue.TheVariants as value
use Rattle.am_theory.specs.declared.declaration.WrittenRep.{WrittenRep}
use Rattle.am_theory.specs.declared.declaration.WrittenRep.TheVariants as written
use Rattle.am_theory.specs.declared.declaration.Typed.{Typed}
use Rattle.am_theory.specs.declared.declaration.Declaration.{Declaration}
use Rattle.am_theory.specs.declared.declaration.Declaration.TheVariants as decl
use Rattle.am_canon.specs.CanonicalText.{number_form, value_form, names_form, typed_form, rep_form, rep_forms, decl_form}
use Rattle.am_canon.specs.Spellable.{is_spellable_declaration}
use Rattle.am_theory.specs.Traces.{is_typed, fits_rep, is_rep_with, is_written_value}

-- ---- parts
number_written : (n : ℤ) → fits_word n ≡ true → is_writable (number_form n) ≡ true
number_written n e = writable-form 0 (node.Number n) ∙ writable-Number n ∙ e

value_written : (v : LitValue) → is_written_value v ≡ true → is_writable (value_form v) ≡ true
value_written (value.Int n) e = number_written n e
value_written (value.Text t) e = writable-form 0 (node.Text t) ∙ writable-Text t ∙ e

members_written : (fs : List Form) → all_true (map is_writable fs) ≡ true → is_writable (list_form fs) ≡ true
members_written fs e = writable-form 0 (node.List fs) ∙ writable-List fs ∙ e

name_written : (n : List ℕ) → is_name n ≡ true → is_writable (word_form n) ≡ true
name_written n e = word_writable n (name_is_word n e)

all_names_written : (ns : List (List ℕ)) → list_all is_name ns ≡ true → all_true (map is_writable (map word_form ns)) ≡ true
all_names_written [] e = refl
all_names_written (n ∷ ns) e =
    let s = both (is_name n) (list_all is_name ns) e in
    rw (name_written n s.0, all_names_written ns s.1) refl

names_written : (ns : List (List ℕ)) → list_all is_name ns ≡ true → is_writable (names_form ns) ≡ true
names_written ns e = members_written (map word_form ns) (all_names_written ns e)

typed_written : (v : Typed) → is_typed v ≡ true → is_writable (typed_form v) ≡ true
typed_written v e =
    let s = both (is_name v.name) (is_name v.sort) e in
    list_writable v.name (word_form v.sort ∷ []) (name_is_word v.name s.0) (rw (name_written v.sort s.1) refl)

all_typed_written : (vs : List Typed) → list_all is_typed vs ≡ true → all_true (map is_writable (map typed_form vs)) ≡ true
all_typed_written [] e = refl
all_typed_written (v ∷ vs) e =
    let s = both (is_typed v) (list_all is_typed vs) e in
    rw (typed_written v s.0, all_typed_written vs s.1) refl

rep_written : (r : WrittenRep) → fits_rep r ≡ true → is_writable (rep_form r) ≡ true
rep_written written.Double e = word_writable (codes "double") refl
rep_written written.Integer e = word_writable (codes "integer") refl
rep_written written.Logical e = word_writable (codes "logical") refl
rep_written (written.Char n) e = list_writable (codes "char") (number_form n ∷ []) refl (rw (number_written n e) refl)
rep_written (written.DoubleVec m) e = list_writable (codes "double") (number_form m ∷ []) refl (rw (number_written m e) refl)
rep_written (written.DoubleMat m n) e =
    let s = both (fits_word m) (fits_word n) e in
    list_writable (codes "double") (number_form m ∷ number_form n ∷ []) refl (rw (number_written m s.0, number_written n s.1) refl)
rep_written (written.IntegerVec m) e = list_writable (codes "integer") (number_form m ∷ []) refl (rw (number_written m e) refl)

reps_written : (r : Option WrittenRep) (copy : Option (List ℕ)) → is_rep_with r copy ≡ true → all_true (map is_writable (rep_forms r copy)) ≡ true
reps_written None copy e = refl
reps_written (Some r) None e = rw (rep_written r e) refl
reps_written (Some r) (Some w) e =
    let s = both (fits_rep r) (is_word w) e in
    rw (rep_written r s.0, word_writable w s.1) refl

-- ---- declarations
axiom_written : (vs : List Typed) (g : WrittenFormula) → list_all is_typed vs ≡ true → is_spellable_formula Names g ≡ true → is_writable (decl_form (decl.Axiom vs g)) ≡ true
unfolding decl_form
axiom_written [] g e ok = list_writable (codes "axiom") (formula_form g ∷ []) refl (rw (spelled_formula_writable g ok) refl)
axiom_written (v ∷ vs) g e ok =
    let all : List Form = list_form (map typed_form (v ∷ vs)) ∷ formula_form g ∷ [] in
    list_writable (codes "axiom") (headed_form (codes "all") all ∷ []) refl
    (rw (list_writable (codes "all") all refl (rw (members_written (map typed_form (v ∷ vs)) (all_typed_written (v ∷ vs) e), spelled_formula_writable g ok) refl)) refl)

pub declaration_written : (d : Declaration) → is_spellable_declaration d ≡ true → is_writable (decl_form d) ≡ true
unfolding decl_form
declaration_written (decl.Sort n r copy) e =
    let s = both (is_name n) (is_rep_with r copy) e in
    list_writable (codes "sort") (word_form n ∷ rep_forms r copy) refl (rw (name_written n s.0, reps_written r copy s.1) refl)
declaration_written (decl.Subsort n s) e =
    let t = both (is_name n) (is_name s) e in
    list_writable (codes "subsort") (word_form n ∷ word_form s ∷ []) refl (rw (name_written n t.0, name_written s t.1) refl)
declaration_written (decl.Function n args r) e =
    let s = both (is_name n) (list_all is_name args && is_name r) e in
    let t = both (list_all is_name args) (is_name r) s.1 in
    list_writable (codes "function") (word_form n ∷ names_form args ∷ word_form r ∷ []) refl (rw (name_written n s.0, names_written args t.0, name_written r t.1) refl)
declaration_written (decl.Relation n args) e =
    let s = both (is_name n) (list_all is_name args) e in
    list_writable (codes "relation") (word_form n ∷ names_form args ∷ []) refl (rw (name_written n s.0, names_written args s.1) refl)
declaration_written (decl.Literal n s v) e =
    let t = both (is_name n) (is_name s && is_written_value v) e in
    let u = both (is_name s) (is_written_value v) t.1 in
    list_writable (codes "literal") (word_form n ∷ word_form s ∷ value_form v ∷ []) refl (rw (name_written n t.0, name_written s u.0, value_written v u.1) refl)
declaration_written (decl.Routine n inputs outputs) e =
    let s = both (is_word n) (list_all is_name inputs && (list_all is_typed outputs && is_some_list outputs)) e in
    let t = both (list_all is_name inputs) (list_all is_typed outputs && is_some_list outputs) s.1 in
    let u = both (list_all is_typed outputs) (is_some_list outputs) t.1 in
    list_writable (codes "routine") (word_form n ∷ names_form inputs ∷ map typed_form outputs) refl (rw (word_writable n s.0, names_written inputs t.0, all_typed_written outputs u.0) refl)
declaration_written (decl.Value w n args r) e =
    let s = both (is_word w) (is_name n && (list_all is_name args && is_name r)) e in
    let t = both (is_name n) (list_all is_name args && is_name r) s.1 in
    let u = both (list_all is_name args) (is_name r) t.1 in
    list_writable (codes "value") (word_form w ∷ word_form n ∷ names_form args ∷ word_form r ∷ []) refl (rw (word_writable w s.0, name_written n t.0, names_written args u.0, name_written r u.1) refl)
declaration_written (decl.Axiom vs g) e =
    let s = both (list_all is_typed vs) (is_spellable_formula Names g && not (has_quantifier g)) e in
    let t = both (is_spellable_formula Names g) (not (has_quantifier g)) s.1 in
    axiom_written vs g s.0 t.0
