-- What a written formula means has terms that nest no deeper than its form is high.
use Rattle.std.proofs.Common.{◌≡◌, ◌∙◌, ◌+◌, ◌≤◌, ℕ, arith, sym, ap, subst, List, [], ◌∷◌, map, Option, Some, None}
use Rattle.std.specs.Prelude.{codes, max}
use Rattle.am_term.specs.Parts.{parts_of}
use Rattle.am_term.specs.Span.{greatest}
use Rattle.am_term.specs.declared.term.Atom.{Atom}
use Rattle.am_term.specs.declared.term.Term.{Term}
use Rattle.am_text.specs.declared.form.Form.{Form}
use Rattle.am_text.specs.declared.form.FormNode.TheVariants as node
use Rattle.am_text.specs.Grammar.{height, highest}
use Rattle.am_text.proofs.Folds.{height-Word, height-List, height-form}
use Rattle.am_syntax.specs.declared.scope.Standing.{Standing}
use Rattle.am_syntax.specs.declared.scope.Standing.TheVariants.{Variable, Input, Barred}
use Rattle.am_syntax.specs.declared.written.WrittenTerm.{WrittenTerm}
use Rattle.am_syntax.specs.declared.written.WrittenTerm.TheVariants.{Alone, Headed}
use Rattle.am_syntax.specs.declared.written.WrittenAtom.{WrittenAtom}
use Rattle.am_syntax.specs.declared.written.WrittenAtom.TheVariants.{Equation, Relation}
use Rattle.am_syntax.specs.declared.written.WrittenFormula.{WrittenFormula}
use Rattle.am_syntax.specs.declared.written.WrittenFormula.TheVariants.{Atom as Atomic, Not, And, Or, Implies, Iff}
use Rattle.am_syntax.specs.declared.written.WrittenFormula.TheVariants.{Quantified}
use Rattle.am_syntax.specs.Forms.{word_form, list_form, headed_form, term_form, atom_form, formula_form}
use Rattle.am_syntax.specs.Induct.{written_term_induct, written_terms_induct}
use Rattle.am_syntax.specs.InductFormula.{written_formula_induct}
use Rattle.am_syntax.specs.Meaning.{named_symbol, alone_term, term_meaning, atom_meaning, formula_meaning}
use Rattle.am_syntax.specs.Scopes.{Scope, standing_of}
use Rattle.am_syntax.proofs.Equations.{term_meaning-Alone, term_meaning-Headed}
use Rattle.am_syntax.proofs.Equations.{formula_meaning-Atom, formula_meaning-Not, formula_meaning-And}
use Rattle.am_syntax.proofs.Equations.{formula_meaning-Or, formula_meaning-Implies, formula_meaning-Iff}
use Rattle.am_syntax.proofs.Equations.{formula_meaning-Quantified}
use Rattle.am_syntax.proofs.FormEquations.{form-Headed, form-Atom, form-Not, form-And, form-Or, form-Implies, form-Iff}
use Rattle.am_derivation.specs.Sizes.{nesting, nesting-Var, nesting-In, nesting-App, AreLow}
use Rattle.am_acceptance.proofs.ClauseAtoms.{HasGood, HaveGood, good-Atom, good-Not, good-And, good-Or, good-Implies}
use Rattle.am_acceptance.proofs.ClauseAtoms.{good-Iff, good-none, good-more}

-- ---- heights

pub height-list : (fs : List Form) → height (list_form fs) ≡ 1 + highest fs
height-list fs = height-form 0 (node.List fs) ∙ height-List fs

-- a list with a word as its head is one higher than what stands behind
pub height-headed : (h : List ℕ) (fs : List Form) → height (headed_form h fs) ≡ 1 + highest fs
height-headed h fs =
    let whole = height-list (word_form h ∷ fs) in
    let head : height (word_form h) ≡ 0 = height-form 0 (node.Word h) ∙ height-Word h in
    omega arith

-- ---- terms

-- the terms of the atom nest at most so deep
abbrev pub IsLowAtom : ℕ → Atom → Type 0
IsLowAtom most a = AreLow most (parts_of a)

module _ (s : Scope) where
  abbrev TermNestsLow : WrittenTerm → Type 0
  TermNestsLow t = nesting (term_meaning s t) ≤ height (term_form t) + 1

  abbrev TermsNestLow : List WrittenTerm → Type 0
  TermsNestLow ts = greatest (map nesting (map (term_meaning s) ts)) ≤ highest (map term_form ts) + 1

  alone-nests : (o : Option Standing) (w : List ℕ) → nesting (alone_term s o w) ≡ 1
  alone-nests (Some (Variable n r)) w = nesting-Var n r
  alone-nests (Some (Input k r)) w = nesting-In k
  alone-nests (Some Barred) w = nesting-In 0
  alone-nests None w = nesting-App (named_symbol s w) []

  low-Alone : (w : List ℕ) → TermNestsLow (Alone w)
  low-Alone w =
      let one = ap nesting (term_meaning-Alone s w) ∙ alone-nests (standing_of w s.bound) w in
      omega arith

  low-Headed : (h : List ℕ) (args : List WrittenTerm) → TermsNestLow args → TermNestsLow (Headed h args)
  low-Headed h args k =
      let deep = ap nesting (term_meaning-Headed s h args)
      ∙ nesting-App (named_symbol s h) (map (term_meaning s) args) in
      let high = ap height (form-Headed h args) ∙ height-headed h (map term_form args) in
      omega arith

  both-within : (a b m n : ℕ) → a ≤ m + 1 → b ≤ n + 1 → max a b ≤ max m n + 1
  both-within a b m n h k = omega arith

  low-more : (t : WrittenTerm) (ts : List WrittenTerm) → TermNestsLow t → TermsNestLow ts → TermsNestLow (t ∷ ts)
  low-more t ts h k = both-within (nesting (term_meaning s t)) (greatest (map nesting (map (term_meaning s) ts)))
      (height (term_form t)) (highest (map term_form ts)) h k

  term-low : (t : WrittenTerm) → TermNestsLow t
  term-low = written_term_induct TermNestsLow TermsNestLow low-Alone low-Headed (omega arith) low-more

  terms-low : (ts : List WrittenTerm) → TermsNestLow ts
  terms-low = written_terms_induct TermNestsLow TermsNestLow low-Alone low-Headed (omega arith) low-more

  -- ---- formulas

  module _ (most : ℕ) where
    all-low : (ts : List Term) → greatest (map nesting ts) ≤ most → AreLow most ts
    all-low [] h = tt
    all-low (t ∷ ts) h = (omega arith, all-low ts (omega arith))

    atom-low : (a : WrittenAtom) → height (atom_form a) ≤ most → IsLowAtom most (atom_meaning s a)
    atom-low (Equation left right) h =
        let high = height-headed (codes "=") (term_form left ∷ term_form right ∷ []) in
        let first = term-low left in
        let second = term-low right in
        (omega arith, (omega arith, tt))
    atom-low (Relation n []) h = tt
    atom-low (Relation n (t ∷ ts)) h =
        let high = height-headed n (map term_form (t ∷ ts)) in
        let deep = terms-low (t ∷ ts) in
        all-low (map (term_meaning s) (t ∷ ts)) (omega arith)

    abbrev HasLow : WrittenFormula → Type 0
    HasLow g = height (formula_form g) ≤ most → HasGood (IsLowAtom most) (formula_meaning s g)

    abbrev HaveLow : List WrittenFormula → Type 0
    HaveLow gs = highest (map formula_form gs) ≤ most → HaveGood (IsLowAtom most) (map (formula_meaning s) gs)

    low-Atom : (a : WrittenAtom) → HasLow (Atomic a)
    low-Atom a h = subst (HasGood (IsLowAtom most)) (sym (formula_meaning-Atom s a))
        (good-Atom (IsLowAtom most) (atom_meaning s a) (atom-low a (subst (λ f. height f ≤ most) (form-Atom a) h)))

    low-Not : (f : WrittenFormula) → HasLow f → HasLow (Not f)
    low-Not f k h =
        let high = ap height (form-Not f) ∙ height-headed (codes "not") (formula_form f ∷ []) in
        subst (HasGood (IsLowAtom most)) (sym (formula_meaning-Not s f))
        (good-Not (IsLowAtom most) (formula_meaning s f) (k (omega arith)))

    low-And : (fs : List WrittenFormula) → HaveLow fs → HasLow (And fs)
    low-And fs k h =
        let high = ap height (form-And fs) ∙ height-headed (codes "and") (map formula_form fs) in
        subst (HasGood (IsLowAtom most)) (sym (formula_meaning-And s fs))
        (good-And (IsLowAtom most) (map (formula_meaning s) fs) (k (omega arith)))

    low-Or : (fs : List WrittenFormula) → HaveLow fs → HasLow (Or fs)
    low-Or fs k h =
        let high = ap height (form-Or fs) ∙ height-headed (codes "or") (map formula_form fs) in
        subst (HasGood (IsLowAtom most)) (sym (formula_meaning-Or s fs))
        (good-Or (IsLowAtom most) (map (formula_meaning s) fs) (k (omega arith)))

    low-Implies : (f g : WrittenFormula) → HasLow f → HasLow g → HasLow (Implies f g)
    low-Implies f g k l h =
        let high = ap height (form-Implies f g)
        ∙ height-headed (codes "=>") (formula_form f ∷ formula_form g ∷ []) in
        subst (HasGood (IsLowAtom most)) (sym (formula_meaning-Implies s f g))
        (good-Implies (IsLowAtom most) (formula_meaning s f) (formula_meaning s g) (k (omega arith)) (l (omega arith)))

    low-Iff : (f g : WrittenFormula) → HasLow f → HasLow g → HasLow (Iff f g)
    low-Iff f g k l h =
        let high = ap height (form-Iff f g)
        ∙ height-headed (codes "<=>") (formula_form f ∷ formula_form g ∷ []) in
        subst (HasGood (IsLowAtom most)) (sym (formula_meaning-Iff s f g))
        (good-Iff (IsLowAtom most) (formula_meaning s f) (formula_meaning s g) (k (omega arith)) (l (omega arith)))

    low-Quantified : HasLow Quantified
    low-Quantified h = subst (HasGood (IsLowAtom most)) (sym (formula_meaning-Quantified s))
        (good-And (IsLowAtom most) [] (good-none (IsLowAtom most)))

    low-next : (f : WrittenFormula) (fs : List WrittenFormula) → HasLow f → HaveLow fs → HaveLow (f ∷ fs)
    low-next f fs k l h = good-more (IsLowAtom most) (formula_meaning s f) (map (formula_meaning s) fs)
        (k (omega arith)) (l (omega arith))

    -- the terms of a formula whose form is at most so high nest at most so deep
    pub formula-low : (g : WrittenFormula) → HasLow g
    formula-low = written_formula_induct HasLow HaveLow low-Atom low-Not low-And low-Or low-Implies low-Iff
        low-Quantified (λ h. good-none (IsLowAtom most)) low-next
