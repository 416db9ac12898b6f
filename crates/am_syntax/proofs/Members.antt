-- Members that were read, each with what it was read as; and the formula that a list is, by its kind.
use Rattle.std.proofs.Common.{◌≡◌, ℕ, Bool, true, false, List, [], ◌∷◌, map, Option, Some, None, refl, sym, ap, subst, ◌∙◌}
use Rattle.std.specs.Prelude.{option_map, if◌then◌else◌}
use Rattle.am_term.specs.Names.{is_name}
use Rattle.am_text.specs.declared.form.Form.{Form}
use Rattle.am_text.specs.declared.form.FormNode.TheVariants as node
use Rattle.am_syntax.specs.declared.written.Words.{Words}
use Rattle.am_syntax.specs.declared.written.WrittenTerm.{WrittenTerm}
use Rattle.am_syntax.specs.declared.written.WrittenTerm.TheVariants.{Headed}
use Rattle.am_syntax.specs.declared.written.WrittenAtom.TheVariants.{Equation, Relation}
use Rattle.am_syntax.specs.declared.written.WrittenFormula.{WrittenFormula}
use Rattle.am_syntax.specs.declared.written.WrittenFormula.TheVariants as made
use Rattle.am_syntax.specs.declared.shapes.Connective.{Connective}
use Rattle.am_syntax.specs.declared.shapes.Connective.TheVariants.{Not, And, Or, Implies, Iff}
use Rattle.am_syntax.specs.declared.shapes.Head.{Head}
use Rattle.am_syntax.specs.declared.shapes.Head.TheVariants.{Joined, Equals, Quantifier, Related, Other}
use Rattle.am_syntax.specs.Shapes.{with_first, all_of, some_of, term_of, formula_of}
use Rattle.am_syntax.specs.Heads.{word_of, head_of, name_of, term_by, some_in, joined, equation_from, relation_from, formula_of_head}
use Rattle.am_syntax.specs.Forms.{is_some_list}
use Rattle.am_syntax.proofs.ShapeEquations.{no_term, some_is, node_formula, formula-cons}
use Rattle.am_syntax.proofs.FormulaEquations.{formula-head}

-- ---- members, each with what it was read as
module _ (A B : Type 0) (f : A → Option B) (R : A → B → Type 0) where
  abbrev pub Each : A → Type 0
  Each x = (y : B) → f x ≡ Some y → R x y

  abbrev pub AreEach : List A → Type 0
  AreEach [] = Unit {0}
  AreEach (x ∷ xs) = Each x × AreEach xs

  abbrev pub Matched : List A → List B → Type 0
  Matched [] [] = Unit {0}
  Matched [] (y ∷ ys) = ⊥
  Matched (x ∷ xs) [] = ⊥
  Matched (x ∷ xs) (y ∷ ys) = R x y × Matched xs ys

  matched_more : (x : A) (xs : List A) (r : Option B) (q : Option (List B)) (ys : List B) → f x ≡ r → all_of (map f xs) ≡ q → Each x → ((zs : List B) → all_of (map f xs) ≡ Some zs → Matched xs zs) → with_first r q ≡ Some ys → Matched (x ∷ xs) ys
  matched_more x xs None q ys is are h k e = absurd cc
  matched_more x xs (Some y) None ys is are h k e = absurd cc
  matched_more x xs (Some y) (Some zs) ys is are h k e = subst (Matched (x ∷ xs)) (let g : y ∷ zs ≡ ys = cc in g) (h y is, k zs are)

  pub all_matched : (xs : List A) → AreEach xs → (ys : List B) → all_of (map f xs) ≡ Some ys → Matched xs ys
  all_matched [] h ys e = subst (Matched []) (let g : [] ≡ ys = cc in g) tt
  all_matched (x ∷ xs) h ys e = matched_more x xs (f x) (all_of (map f xs)) ys refl refl h.0 (all_matched xs h.1) e

-- ---- the term that a list is
abbrev pub IsHeaded : Option (List ℕ) → Option (List WrittenTerm) → WrittenTerm → Type 0
IsHeaded w r t = (h : List ℕ) × (args : List WrittenTerm) × (w ≡ Some h) × (r ≡ Some args) × (Headed h args ≡ t) × (is_name h ≡ true) × (is_some_list args ≡ true)

headed_from : (h : List ℕ) (r : Option (List WrittenTerm)) (t : WrittenTerm) → is_name h ≡ true → option_map (Headed h) (some_in r) ≡ Some t → IsHeaded (Some h) r t
headed_from h None t n e = absurd cc
headed_from h (Some []) t n e = absurd cc
headed_from h (Some (x ∷ xs)) t n e = (h, x ∷ xs, refl, refl, let g : Headed h (x ∷ xs) ≡ t = cc in g, n, refl)

headed_by : (b : Bool) (h : List ℕ) (terms : List (Option WrittenTerm)) (t : WrittenTerm) → is_name h ≡ b → (if b then option_map (Headed h) (some_of terms) else no_term) ≡ Some t → IsHeaded (Some h) (all_of terms) t
headed_by true h terms t n e = headed_from h (all_of terms) t n (ap (option_map (Headed h)) (sym (some_is terms)) ∙ e)
headed_by false h terms t n e = absurd cc

pub headed_is : (w : Option (List ℕ)) (terms : List (Option WrittenTerm)) (t : WrittenTerm) → term_by w terms ≡ Some t → IsHeaded w (all_of terms) t
headed_is None terms t e = absurd cc
headed_is (Some h) terms t e = headed_by (is_name h) h terms t refl e

-- ---- the formula that a list is
name_by : (b : Bool) (h m : List ℕ) → is_name h ≡ b → (if b then Some h else None) ≡ Some m → is_name m ≡ true
name_by true h m e f = subst (λ (x : List ℕ). is_name x ≡ true) (let p : h ≡ m = cc in p) e
name_by false h m e f = absurd cc

name_is : (w : Option (List ℕ)) (m : List ℕ) → name_of w ≡ Some m → is_name m ≡ true
name_is None m e = absurd cc
name_is (Some h) m e = name_by (is_name h) h m refl e

module _ (P : WrittenFormula → Type 0) (T : List WrittenTerm → Type 0) (F : List WrittenFormula → Type 0)
    (negated : (f : WrittenFormula) → F (f ∷ []) → P (made.Not f))
    (every : (f : WrittenFormula) (fs : List WrittenFormula) → F (f ∷ fs) → P (made.And (f ∷ fs)))
    (some : (f : WrittenFormula) (fs : List WrittenFormula) → F (f ∷ fs) → P (made.Or (f ∷ fs)))
    (implied : (f g : WrittenFormula) → F (f ∷ g ∷ []) → P (made.Implies f g))
    (equal : (f g : WrittenFormula) → F (f ∷ g ∷ []) → P (made.Iff f g))
    (equated : (t u : WrittenTerm) → T (t ∷ u ∷ []) → P (made.Atom (Equation t u)))
    (related : (n : List ℕ) (t : WrittenTerm) (ts : List WrittenTerm) → is_name n ≡ true → T (t ∷ ts) → P (made.Atom (Relation n (t ∷ ts))))
    (quantified : P made.Quantified) where
  is_made : (f g : WrittenFormula) → Some f ≡ Some g → P f → P g
  is_made f g e h = subst P (let p : f ≡ g = cc in p) h

  of_joined : (c : Connective) (r : Option (List WrittenFormula)) (g : WrittenFormula) → ((fs : List WrittenFormula) → r ≡ Some fs → F fs) → joined c r ≡ Some g → P g
  of_joined c None g h e = absurd cc
  of_joined Not (Some []) g h e = absurd cc
  of_joined Not (Some (x ∷ [])) g h e = is_made (made.Not x) g e (negated x (h (x ∷ []) refl))
  of_joined Not (Some (x ∷ y ∷ ys)) g h e = absurd cc
  of_joined And (Some []) g h e = absurd cc
  of_joined And (Some (x ∷ xs)) g h e = is_made (made.And (x ∷ xs)) g e (every x xs (h (x ∷ xs) refl))
  of_joined Or (Some []) g h e = absurd cc
  of_joined Or (Some (x ∷ xs)) g h e = is_made (made.Or (x ∷ xs)) g e (some x xs (h (x ∷ xs) refl))
  of_joined Implies (Some []) g h e = absurd cc
  of_joined Implies (Some (x ∷ [])) g h e = absurd cc
  of_joined Implies (Some (x ∷ y ∷ [])) g h e = is_made (made.Implies x y) g e (implied x y (h (x ∷ y ∷ []) refl))
  of_joined Implies (Some (x ∷ y ∷ z ∷ zs)) g h e = absurd cc
  of_joined Iff (Some []) g h e = absurd cc
  of_joined Iff (Some (x ∷ [])) g h e = absurd cc
  of_joined Iff (Some (x ∷ y ∷ [])) g h e = is_made (made.Iff x y) g e (equal x y (h (x ∷ y ∷ []) refl))
  of_joined Iff (Some (x ∷ y ∷ z ∷ zs)) g h e = absurd cc

  of_equation : (r : Option (List WrittenTerm)) (g : WrittenFormula) → ((ts : List WrittenTerm) → r ≡ Some ts → T ts) → equation_from r ≡ Some g → P g
  of_equation None g h e = absurd cc
  of_equation (Some []) g h e = absurd cc
  of_equation (Some (x ∷ [])) g h e = absurd cc
  of_equation (Some (x ∷ y ∷ [])) g h e = is_made (made.Atom (Equation x y)) g e (equated x y (h (x ∷ y ∷ []) refl))
  of_equation (Some (x ∷ y ∷ z ∷ zs)) g h e = absurd cc

  of_relation : (n : Option (List ℕ)) (r : Option (List WrittenTerm)) (g : WrittenFormula) → ((m : List ℕ) → n ≡ Some m → is_name m ≡ true) → ((ts : List WrittenTerm) → r ≡ Some ts → T ts) → relation_from n r ≡ Some g → P g
  of_relation None r g is h e = absurd cc
  of_relation (Some n) None g is h e = absurd cc
  of_relation (Some n) (Some []) g is h e = absurd cc
  of_relation (Some n) (Some (x ∷ xs)) g is h e = is_made (made.Atom (Relation n (x ∷ xs))) g e (related n x xs (is n refl) (h (x ∷ xs) refl))

  of_head : (k : Head) (n : Option (List ℕ)) (terms : List (Option WrittenTerm)) (formulas : List (Option WrittenFormula)) (g : WrittenFormula) → ((m : List ℕ) → n ≡ Some m → is_name m ≡ true) → ((ts : List WrittenTerm) → all_of terms ≡ Some ts → T ts) → ((fs : List WrittenFormula) → all_of formulas ≡ Some fs → F fs) → formula_of_head k n terms formulas ≡ Some g → P g
  of_head (Joined c) n terms formulas g is h k e = of_joined c (all_of formulas) g k e
  of_head Equals n terms formulas g is h k e = of_equation (all_of terms) g h e
  of_head Quantifier n terms formulas g is h k e = is_made made.Quantified g e quantified
  of_head Related n terms formulas g is h k e = of_relation n (all_of terms) g is h e
  of_head Other n terms formulas g is h k e = absurd cc

  pub of_list : (words : Words) (f : Form) (fs : List Form) (g : WrittenFormula) → ((ts : List WrittenTerm) → all_of (map (term_of words) fs) ≡ Some ts → T ts) → ((gs : List WrittenFormula) → all_of (map (formula_of words) fs) ≡ Some gs → F gs) → node_formula words (node.List (f ∷ fs)) ≡ Some g → P g
  of_list words f fs g h k e =
      of_head (head_of (word_of f.node)) (name_of (word_of f.node)) (map (term_of words) fs) (map (formula_of words) fs) g (name_is (word_of f.node)) h k
      (sym (formula-head (word_of f.node) (map (term_of words) fs) (map (formula_of words) fs)) ∙ sym (formula-cons words f fs) ∙ e)
