-- The first form of a theory's text can be written, is one list high, and gives the version.
use Rattle.std.proofs.Common.{◌≡◌, ◌∙◌, ◌⊎◌, inl, inr, ◌&&◌, ◌+◌, max, ℕ, true, Option, Some, None, List, [], ◌∷◌, refl, sym, ap, subst}
use Rattle.std.specs.Prelude.{pos, codes, if◌then◌else◌}
use Rattle.std.specs.Str.{bytes_eq}
use Rattle.am_text.specs.declared.form.Form.{Form}
use Rattle.am_text.specs.declared.form.FormNode.TheVariants as node
use Rattle.am_text.specs.Grammar.{height}
use Rattle.am_text.specs.Spelling.{is_writable}
use Rattle.am_text.proofs.Folds.{writable-Word, writable-Number, writable-List, writable-form, height-Word, height-Number, height-List, height-form}
use Rattle.am_syntax.specs.Forms.{word_form}
use Rattle.am_theory.specs.Declarations.{◌>>=◌, number_of, version_in, version_of}
use Rattle.am_theory.specs.Contents.{nothing}
use Rattle.am_theory.specs.Reading.{read_from, versioned}
use Rattle.am_canon.specs.CanonicalText.{number_form, version_form}
use Rattle.am_theory.proofs.FormParts.{word-at, word-Word, number-at, number-Number, list-at, list-List}

abbrev word_theory : Form
word_theory = word_form (codes "theory")

-- a version that there is
abbrev pub IsVersion : ℕ → Type 0
IsVersion v = (v ≡ 1) ⊎ (v ≡ 2)

number-writable : (v : ℕ) → IsVersion v → is_writable (number_form (pos v)) ≡ true
number-writable v (inl e) = subst (λ n. is_writable (number_form (pos n)) ≡ true) (sym e) (writable-form 0 (node.Number (pos 1)) ∙ writable-Number (pos 1))
number-writable v (inr e) = subst (λ n. is_writable (number_form (pos n)) ≡ true) (sym e) (writable-form 0 (node.Number (pos 2)) ∙ writable-Number (pos 2))

pub version-writable : (v : ℕ) → IsVersion v → is_writable (version_form v) ≡ true
version-writable v h =
    writable-form 0 (node.List (word_theory ∷ number_form (pos v) ∷ []))
    ∙ writable-List (word_theory ∷ number_form (pos v) ∷ [])
    ∙ ap (λ b. b && (is_writable (number_form (pos v)) && true)) (writable-form 0 (node.Word (codes "theory")) ∙ writable-Word (codes "theory"))
    ∙ ap (λ b. b && true) (number-writable v h)

pub version-height : (v : ℕ) → height (version_form v) ≡ 1
version-height v =
    height-form 0 (node.List (word_theory ∷ number_form (pos v) ∷ []))
    ∙ height-List (word_theory ∷ number_form (pos v) ∷ [])
    ∙ ap (λ n. 1 + max n (max (height (number_form (pos v))) 0)) (height-form 0 (node.Word (codes "theory")) ∙ height-Word (codes "theory"))
    ∙ ap (λ n. 1 + max 0 (max n 0)) (height-form 0 (node.Number (pos v)) ∙ height-Number (pos v))

pub version-read : (v : ℕ) → version_of (version_form v) ≡ Some (pos v)
unfolding version_of
version-read v =
    ap (λ o. o >>= version_in) (list-at (version_form v) ∙ list-List (word_theory ∷ number_form (pos v) ∷ []))
    ∙ ap (λ (o : Option (List ℕ)). o >>= λ w. if bytes_eq w (codes "theory") then number_of (number_form (pos v)) else None) (word-at word_theory ∙ word-Word (codes "theory"))
    ∙ number-at (number_form (pos v))
    ∙ number-Number (pos v)

-- a file of a version that there is begins with nothing in that version
pub version-begins : (v : ℕ) → IsVersion v → (p : ℕ) (fs : List Form) → versioned p (Some (pos v)) fs ≡ read_from (nothing v) fs
version-begins v (inl e) p fs = subst (λ n. versioned p (Some (pos n)) fs ≡ read_from (nothing n) fs) (sym e) refl
version-begins v (inr e) p fs = subst (λ n. versioned p (Some (pos n)) fs ≡ read_from (nothing n) fs) (sym e) refl
