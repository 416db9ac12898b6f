-- Which formula a form is, by the head of its list.
use Rattle.std.proofs.Common.{◌≡◌, ℕ, Bool, true, false, List, [], ◌∷◌, ◌++◌, Option, Some, None, refl, sym, ap, ◌∙◌}
use Rattle.std.specs.Prelude.{codes, option_map, if◌then◌else◌}
use Rattle.std.proofs.lemmas.Grind.{common_steps}
use Rattle.std.specs.Str.{bytes_eq}
use Rattle.am_term.specs.Names.{is_name}
use Rattle.am_text.specs.declared.form.FormNode.TheViews.{the_lemmas as form_lemmas}
use Rattle.am_syntax.specs.declared.written.WrittenTerm.{WrittenTerm}
use Rattle.am_syntax.specs.declared.written.WrittenAtom.TheVariants.{Equation, Relation}
use Rattle.am_syntax.specs.declared.written.WrittenFormula.{WrittenFormula}
use Rattle.am_syntax.specs.declared.written.WrittenFormula.TheViews.{the_lemmas}
use Rattle.am_syntax.specs.declared.written.WrittenFormula.TheVariants as made
use Rattle.am_syntax.specs.declared.shapes.Connective.TheVariants.{Not, And, Or, Implies, Iff}
use Rattle.am_syntax.specs.declared.shapes.Head.{Head}
use Rattle.am_syntax.specs.declared.shapes.Head.TheVariants.{Joined, Equals, Quantifier, Related, Other}
use Rattle.am_syntax.specs.Shapes.{with_first, all_of, some_of, one_of, two_of, pair_of, is_quantifier}
use Rattle.am_syntax.specs.Heads.{name_of, head_of, some_in, only_in, two_in, joined, equation_from, formula_by, formula_of_head}
use Rattle.am_syntax.proofs.ShapeEquations.{no_formula, some_is, formula-at, formula-Word, formula-Number, formula-Text, formula-nil, formula-cons, word-Word, word-Number, word-Text, word-List, all_more, all_fails}

-- ---- one and two members, among all
abbrev none : {A : Type 0} → Option A
none = None

abbrev of_all : {A B : Type 0} → (List A → Option B) → Option (List A) → Option B
of_all f None = None
of_all f (Some xs) = f xs

many_no : {A : Type 0} (x y : Option A) (r : Option (List A)) → of_all only_in (with_first x (with_first y r)) ≡ none
many_no None y r = refl
many_no (Some x) None r = refl
many_no (Some x) (Some y) None = refl
many_no (Some x) (Some y) (Some zs) = refl

one_first : {A B : Type 0} (f : A → B) (x : Option A) → option_map f x ≡ option_map f (of_all only_in (with_first x (Some [])))
one_first f None = refl
one_first f (Some x) = refl

pub one_is : {A B : Type 0} (f : A → B) (xs : List (Option A)) → one_of f xs ≡ option_map f (of_all only_in (all_of xs))
one_is f [] = refl
one_is f (x ∷ []) = one_first f x
one_is f (x ∷ y ∷ ys) = ap (option_map f) (sym (many_no x y (all_of ys)))

three_no : {A : Type 0} (x y z : Option A) (r : Option (List A)) → of_all two_in (with_first x (with_first y (with_first z r))) ≡ none
three_no None y z r = refl
three_no (Some x) None z r = refl
three_no (Some x) (Some y) None r = refl
three_no (Some x) (Some y) (Some z) None = refl
three_no (Some x) (Some y) (Some z) (Some zs) = refl

single_no : {A : Type 0} (x : Option A) → of_all two_in (with_first x (Some [])) ≡ none
single_no None = refl
single_no (Some x) = refl

pair_first : {A B : Type 0} (f : A → A → B) (x y : Option A) → pair_of f x y ≡ option_map (λ p. f p.0 p.1) (of_all two_in (with_first x (with_first y (Some []))))
pair_first f None y = refl
pair_first f (Some x) None = refl
pair_first f (Some x) (Some y) = refl

pub two_is : {A B : Type 0} (f : A → A → B) (xs : List (Option A)) → two_of f xs ≡ option_map (λ p. f p.0 p.1) (of_all two_in (all_of xs))
two_is f [] = refl
two_is f (x ∷ []) = ap (option_map (λ p. f p.0 p.1)) (sym (single_no x))
two_is f (x ∷ y ∷ []) = pair_first f x y
two_is f (x ∷ y ∷ z ∷ zs) = ap (option_map (λ p. f p.0 p.1)) (sym (three_no x y z (all_of zs)))

-- ---- the formula by its head
joined_not : (r : Option (List WrittenFormula)) → option_map made.Not (of_all only_in r) ≡ joined Not r
joined_not None = refl
joined_not (Some fs) = refl

joined_and : (r : Option (List WrittenFormula)) → option_map made.And (some_in r) ≡ joined And r
joined_and None = refl
joined_and (Some fs) = refl

joined_or : (r : Option (List WrittenFormula)) → option_map made.Or (some_in r) ≡ joined Or r
joined_or None = refl
joined_or (Some fs) = refl

joined_implies : (r : Option (List WrittenFormula)) → option_map (λ p. made.Implies p.0 p.1) (of_all two_in r) ≡ joined Implies r
joined_implies None = refl
joined_implies (Some fs) = refl

joined_iff : (r : Option (List WrittenFormula)) → option_map (λ p. made.Iff p.0 p.1) (of_all two_in r) ≡ joined Iff r
joined_iff None = refl
joined_iff (Some fs) = refl

equated : (r : Option (List WrittenTerm)) → option_map (λ p. made.Atom (Equation p.0 p.1)) (of_all two_in r) ≡ equation_from r
equated None = refl
equated (Some ts) = refl

abbrev chosen : Bool → Bool → Bool → Bool → Bool → Bool → Bool → Bool → Head
chosen a b c d e f g h =
    if a then Joined Not
    else if b then Joined And
    else if c then Joined Or
    else if d then Joined Implies
    else if e then Joined Iff
    else if f then Equals
    else if g then Quantifier
    else if h then Related
    else Other

abbrev chosen_formula : Bool → Bool → Bool → Bool → Bool → Bool → Bool → Bool → List ℕ → List (Option WrittenTerm) → List (Option WrittenFormula) → Option WrittenFormula
chosen_formula a b c d e f g h n terms formulas =
    if a then one_of made.Not formulas
    else if b then option_map made.And (some_of formulas)
    else if c then option_map made.Or (some_of formulas)
    else if d then two_of made.Implies formulas
    else if e then two_of made.Iff formulas
    else if f then two_of (λ left right. made.Atom (Equation left right)) terms
    else if g then Some made.Quantified
    else if h then option_map (λ ts. made.Atom (Relation n ts)) (some_of terms)
    else None

abbrev no_name : Option (List ℕ)
no_name = None

by_choice : (a b c d e f g h : Bool) (n : List ℕ) (terms : List (Option WrittenTerm)) (formulas : List (Option WrittenFormula)) → chosen_formula a b c d e f g h n terms formulas ≡ formula_of_head (chosen a b c d e f g h) (if h then Some n else no_name) terms formulas
by_choice true b c d e f g h n terms formulas = one_is made.Not formulas ∙ joined_not (all_of formulas)
by_choice false true c d e f g h n terms formulas = ap (option_map made.And) (some_is formulas) ∙ joined_and (all_of formulas)
by_choice false false true d e f g h n terms formulas = ap (option_map made.Or) (some_is formulas) ∙ joined_or (all_of formulas)
by_choice false false false true e f g h n terms formulas = two_is made.Implies formulas ∙ joined_implies (all_of formulas)
by_choice false false false false true f g h n terms formulas = two_is made.Iff formulas ∙ joined_iff (all_of formulas)
by_choice false false false false false true g h n terms formulas = two_is (λ left right. made.Atom (Equation left right)) terms ∙ equated (all_of terms)
by_choice false false false false false false true h n terms formulas = refl
by_choice false false false false false false false true n terms formulas = ap (option_map (λ ts. made.Atom (Relation n ts))) (some_is terms)
by_choice false false false false false false false false n terms formulas = refl

pub formula-head : (w : Option (List ℕ)) (terms : List (Option WrittenTerm)) (formulas : List (Option WrittenFormula)) → formula_by w terms formulas ≡ formula_of_head (head_of w) (name_of w) terms formulas
formula-head None terms formulas = refl
formula-head (Some h) terms formulas = by_choice (bytes_eq h (codes "not")) (bytes_eq h (codes "and")) (bytes_eq h (codes "or")) (bytes_eq h (codes "=>")) (bytes_eq h (codes "<=>")) (bytes_eq h (codes "=")) (is_quantifier h) (is_name h) h terms formulas

-- ---- one item and two items, taken from the end
end_no : {A B : Type 0} (f : List A → Option B) → ((x : A) (xs : List A) → f (x ∷ xs) ≡ none) → (ys : List A) → (ys ≡ [] → ⊥) → f ys ≡ none
end_no f more [] h = absurd (h refl)
end_no f more (y ∷ ys) h = more y ys

pub only_last : {A : Type 0} (xs ys : List A) (x : A) → xs ≡ ys ++ x ∷ [] → ys ≡ [] → only_in xs ≡ Some x
only_last xs ys x e h = ap only_in (e ∙ ap (λ zs. zs ++ x ∷ []) h)

only_after : {A : Type 0} (y x : A) (ys : List A) → only_in (y ∷ ys ++ x ∷ []) ≡ none
only_after y x [] = refl
only_after y x (z ∷ zs) = refl

pub only_more : {A : Type 0} (xs ys : List A) (x : A) → xs ≡ ys ++ x ∷ [] → (ys ≡ [] → ⊥) → only_in xs ≡ none
only_more xs ys x e h = ap only_in e ∙ end_no (λ zs. only_in (zs ++ x ∷ [])) (λ z zs. only_after z x zs) ys h

pub two_last : {A : Type 0} (xs ys zs : List A) (x y : A) → xs ≡ ys ++ y ∷ [] → ys ≡ zs ++ x ∷ [] → zs ≡ [] → two_in xs ≡ Some (x, y)
two_last xs ys zs x y e f h = ap two_in (e ∙ ap (λ us. us ++ y ∷ []) (f ∙ ap (λ us. us ++ x ∷ []) h))

two_after : {A : Type 0} (z x y : A) (zs : List A) → two_in ((z ∷ zs ++ x ∷ []) ++ y ∷ []) ≡ none
two_after z x y [] = refl
two_after z x y (u ∷ []) = refl
two_after z x y (u ∷ v ∷ vs) = refl

pub two_more : {A : Type 0} (xs ys zs : List A) (x y : A) → xs ≡ ys ++ y ∷ [] → ys ≡ zs ++ x ∷ [] → (zs ≡ [] → ⊥) → two_in xs ≡ none
two_more xs ys zs x y e f h = ap two_in (e ∙ ap (λ us. us ++ y ∷ []) f) ∙ end_no (λ us. two_in ((us ++ x ∷ []) ++ y ∷ [])) (λ u us. two_after u x y us) zs h

pub two_one : {A : Type 0} (xs ys : List A) (y : A) → xs ≡ ys ++ y ∷ [] → ys ≡ [] → two_in xs ≡ none
two_one xs ys y e h = ap two_in (e ∙ ap (λ us. us ++ y ∷ []) h)

pub ruleset member_laws = (common_steps, only_last, only_more, two_last, two_more, two_one)

pub ruleset formula_laws = (common_steps, form_lemmas, the_lemmas, formula-at, formula-Word, formula-Number, formula-Text, formula-nil, formula-cons, formula-head, word-Word, word-Number, word-Text, word-List, all_more, all_fails)
