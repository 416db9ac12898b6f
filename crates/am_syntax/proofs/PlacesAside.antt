-- Which term and which formula a form is does not hang on its places.
use Rattle.std.proofs.Common.{◌≡◌, List, ◌∷◌, map, refl, sym, ap, ◌∙◌}
use Rattle.am_text.specs.declared.form.Form.{Form}
use Rattle.am_text.specs.Spelling.{bare, node_bare}
use Rattle.am_text.proofs.Folds.{bare-Word, bare-Number, bare-Text, bare-List, bare-form}
use Rattle.am_text.proofs.FormInduct.{form_induct}
use Rattle.am_syntax.specs.declared.written.Words.{Words}
use Rattle.am_syntax.specs.Shapes.{Shape, shape, node_shape, list_shape, term_of, formula_of}
use Rattle.am_syntax.specs.ShapeLaws.{PlacesAside}
use Rattle.am_syntax.proofs.ShapeEquations.{shape-List, shape-form}

pub shape-bare : (words : Words) (f : Form) → shape words (bare f) ≡ shape words f
shape-bare words = form_induct (λ n. node_shape words (node_bare n) ≡ node_shape words n) (λ f. shape words (bare f) ≡ shape words f) (λ fs. map (shape words) (map bare fs) ≡ map (shape words) fs)
    (λ w. ap (node_shape words) (bare-Word w))
    (λ n. ap (node_shape words) (bare-Number n))
    (λ t. ap (node_shape words) (bare-Text t))
    (λ fs h. ap (node_shape words) (bare-List fs) ∙ shape-List words (map bare fs) ∙ ap list_shape h ∙ sym (shape-List words fs))
    (λ p n h. ap (shape words) (bare-form p n) ∙ shape-form words 0 (node_bare n) ∙ h ∙ sym (shape-form words p n))
    refl
    (λ f fs h k. ap (λ (s : Shape). s ∷ map (shape words) (map bare fs)) h ∙ ap (λ (ss : List Shape). shape words f ∷ ss) k)

pub same_shape : (words : Words) (f g : Form) → bare f ≡ bare g → shape words f ≡ shape words g
same_shape words f g e = sym (shape-bare words f) ∙ ap (shape words) e ∙ shape-bare words g

pub places_aside : PlacesAside
unfolding term_of formula_of
places_aside = λ words f g e. (ap (λ (s : Shape). s.term) (same_shape words f g e), ap (λ (s : Shape). s.formula) (same_shape words f g e))
