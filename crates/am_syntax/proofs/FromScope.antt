-- The variables of what is meant are those that names of the scope stand for.
use Rattle.std.proofs.Common.{◌≡◌, ◌==◌, ◌∙◌, ◌&&◌, ◌||◌, ℕ, Bool, true, false, refl, sym, ap, true≢false, List, [], ◌∷◌, map, Option, Some, None, arith}
use Rattle.std.specs.List.{list_any}
use Rattle.std.proofs.lemmas.Bool.Decides.{nat_tests}
use Rattle.am_term.specs.declared.id.SortId.{SortId}
use Rattle.am_term.specs.Sorts.{same_sort}
use Rattle.am_term.specs.Variables.{occurs, occurs-Var, occurs-In, occurs-App}
use Rattle.am_term.proofs.Forest.{same_sort-is}
use Rattle.am_term.proofs.Tests.{and_left, and_right}
use Rattle.am_syntax.specs.declared.scope.Standing.{Standing}
use Rattle.am_syntax.specs.declared.scope.Standing.TheVariants.{Variable, Input, Barred}
use Rattle.am_syntax.specs.declared.written.WrittenTerm.{WrittenTerm}
use Rattle.am_syntax.specs.declared.written.WrittenTerm.TheVariants.{Alone, Headed}
use Rattle.am_syntax.specs.declared.written.WrittenAtom.{WrittenAtom}
use Rattle.am_syntax.specs.declared.written.WrittenAtom.TheVariants.{Equation, Relation}
use Rattle.am_syntax.specs.declared.written.WrittenFormula.{WrittenFormula}
use Rattle.am_syntax.specs.declared.written.WrittenFormula.TheVariants.{Atom as Atomic, Not, And, Or, Implies, Iff, Quantified}
use Rattle.am_syntax.specs.Induct.{written_term_induct, written_terms_induct}
use Rattle.am_syntax.specs.InductFormula.{written_formula_induct}
use Rattle.am_syntax.specs.Scopes.{Scope, standing_of}
use Rattle.am_syntax.specs.Meaning.{named_symbol, alone_term, term_meaning, atom_meaning, formula_meaning}
use Rattle.am_syntax.specs.Occurring.{occurs_in_atom, occurs_in_formula}
use Rattle.am_syntax.specs.Laws.{IsBoundIn}
use Rattle.am_syntax.proofs.Equations.{term_meaning-Alone, term_meaning-Headed, formula_meaning-Atom, formula_meaning-Not, formula_meaning-And, formula_meaning-Or, formula_meaning-Implies, formula_meaning-Iff, formula_meaning-Quantified, occurs_in_formula-Atom, occurs_in_formula-Not, occurs_in_formula-And, occurs_in_formula-Or, occurs_in_formula-Implies, occurs_in_formula-Iff}

number-is : (m n : ℕ) → (m == n) ≡ true → m ≡ n
number-is m n e = grind (arith, nat_tests)

module _ (s : Scope) (n : ℕ) (sort : SortId) where
  -- one of two tests holds, and what follows from each
  either : (a b : Bool) → (a ≡ true → IsBoundIn s n sort) → (b ≡ true → IsBoundIn s n sort) → (a || b) ≡ true → IsBoundIn s n sort
  either true b h k e = h refl
  either false b h k e = k e

  -- a name alone, by what it stands for
  bound-variable : (w : List ℕ) (m : ℕ) (r : SortId) → standing_of w s.bound ≡ Some (Variable m r) → (n == m && same_sort sort r) ≡ true → IsBoundIn s n sort
  bound-variable w m r p e =
      let k : n ≡ m = number-is n m (and_left (n == m) (same_sort sort r) e) in
      let l : sort ≡ r = same_sort-is sort r (and_right (n == m) (same_sort sort r) e) in
      (w, p ∙ ap (λ x. Some (Variable x r)) (sym k) ∙ ap (λ x. Some (Variable n x)) (sym l))

  bound-at : (w : List ℕ) (o : Option Standing) → standing_of w s.bound ≡ o → occurs n sort (alone_term s o w) ≡ true → IsBoundIn s n sort
  bound-at w None p e = absurd (true≢false (sym e ∙ occurs-App n sort (named_symbol s w) []))
  bound-at w (Some (Variable m r)) p e = bound-variable w m r p (sym (occurs-Var n sort m r) ∙ e)
  bound-at w (Some (Input k r)) p e = absurd (true≢false (sym e ∙ occurs-In n sort k))
  bound-at w (Some Barred) p e = absurd (true≢false (sym e ∙ occurs-In n sort 0))

  -- ---- all terms
  abbrev pub TermBound : WrittenTerm → Type 0
  TermBound t = occurs n sort (term_meaning s t) ≡ true → IsBoundIn s n sort

  abbrev pub TermsBound : List WrittenTerm → Type 0
  TermsBound ts = list_any (occurs n sort) (map (term_meaning s) ts) ≡ true → IsBoundIn s n sort

  bound-Alone : (w : List ℕ) → TermBound (Alone w)
  bound-Alone w e = bound-at w (standing_of w s.bound) refl (ap (occurs n sort) (sym (term_meaning-Alone s w)) ∙ e)

  bound-Headed : (h : List ℕ) (args : List WrittenTerm) → TermsBound args → TermBound (Headed h args)
  bound-Headed h args k e = k (sym (occurs-App n sort (named_symbol s h) (map (term_meaning s) args)) ∙ ap (occurs n sort) (sym (term_meaning-Headed s h args)) ∙ e)

  bound-none : TermsBound []
  bound-none e = absurd (true≢false (sym e))

  bound-more : (t : WrittenTerm) (ts : List WrittenTerm) → TermBound t → TermsBound ts → TermsBound (t ∷ ts)
  bound-more t ts k ks e = either (occurs n sort (term_meaning s t)) (list_any (occurs n sort) (map (term_meaning s) ts)) k ks e

  pub term-bound : (t : WrittenTerm) → TermBound t
  term-bound = written_term_induct TermBound TermsBound bound-Alone bound-Headed bound-none bound-more

  pub terms-bound : (ts : List WrittenTerm) → TermsBound ts
  terms-bound = written_terms_induct TermBound TermsBound bound-Alone bound-Headed bound-none bound-more

  -- ---- atoms
  pub atom-bound : (a : WrittenAtom) → occurs_in_atom n sort (atom_meaning s a) ≡ true → IsBoundIn s n sort
  atom-bound (Equation left right) e = either (occurs n sort (term_meaning s left)) (occurs n sort (term_meaning s right)) (term-bound left) (term-bound right) e
  atom-bound (Relation r args) e = terms-bound args e

  -- ---- formulas
  abbrev pub FormulaBound : WrittenFormula → Type 0
  FormulaBound f = occurs_in_formula n sort (formula_meaning s f) ≡ true → IsBoundIn s n sort

  abbrev pub FormulasBound : List WrittenFormula → Type 0
  FormulasBound fs = list_any (occurs_in_formula n sort) (map (formula_meaning s) fs) ≡ true → IsBoundIn s n sort

  bound-Atom : (a : WrittenAtom) → FormulaBound (Atomic a)
  bound-Atom a e = atom-bound a (sym (occurs_in_formula-Atom n sort (atom_meaning s a)) ∙ ap (occurs_in_formula n sort) (sym (formula_meaning-Atom s a)) ∙ e)

  bound-Not : (f : WrittenFormula) → FormulaBound f → FormulaBound (Not f)
  bound-Not f k e = k (sym (occurs_in_formula-Not n sort (formula_meaning s f)) ∙ ap (occurs_in_formula n sort) (sym (formula_meaning-Not s f)) ∙ e)

  bound-And : (fs : List WrittenFormula) → FormulasBound fs → FormulaBound (And fs)
  bound-And fs k e = k (sym (occurs_in_formula-And n sort (map (formula_meaning s) fs)) ∙ ap (occurs_in_formula n sort) (sym (formula_meaning-And s fs)) ∙ e)

  bound-Or : (fs : List WrittenFormula) → FormulasBound fs → FormulaBound (Or fs)
  bound-Or fs k e = k (sym (occurs_in_formula-Or n sort (map (formula_meaning s) fs)) ∙ ap (occurs_in_formula n sort) (sym (formula_meaning-Or s fs)) ∙ e)

  bound-Implies : (f g : WrittenFormula) → FormulaBound f → FormulaBound g → FormulaBound (Implies f g)
  bound-Implies f g k l e =
      either (occurs_in_formula n sort (formula_meaning s f)) (occurs_in_formula n sort (formula_meaning s g)) k l
      (sym (occurs_in_formula-Implies n sort (formula_meaning s f) (formula_meaning s g)) ∙ ap (occurs_in_formula n sort) (sym (formula_meaning-Implies s f g)) ∙ e)

  bound-Iff : (f g : WrittenFormula) → FormulaBound f → FormulaBound g → FormulaBound (Iff f g)
  bound-Iff f g k l e =
      either (occurs_in_formula n sort (formula_meaning s f)) (occurs_in_formula n sort (formula_meaning s g)) k l
      (sym (occurs_in_formula-Iff n sort (formula_meaning s f) (formula_meaning s g)) ∙ ap (occurs_in_formula n sort) (sym (formula_meaning-Iff s f g)) ∙ e)

  bound-Quantified : FormulaBound Quantified
  bound-Quantified e = absurd (true≢false (sym e ∙ ap (occurs_in_formula n sort) (formula_meaning-Quantified s) ∙ occurs_in_formula-And n sort []))

  bound-no_formula : FormulasBound []
  bound-no_formula e = absurd (true≢false (sym e))

  bound-formulas : (f : WrittenFormula) (fs : List WrittenFormula) → FormulaBound f → FormulasBound fs → FormulasBound (f ∷ fs)
  bound-formulas f fs k ks e = either (occurs_in_formula n sort (formula_meaning s f)) (list_any (occurs_in_formula n sort) (map (formula_meaning s) fs)) k ks e

  pub formula-bound : (f : WrittenFormula) → FormulaBound f
  formula-bound = written_formula_induct FormulaBound FormulasBound bound-Atom bound-Not bound-And bound-Or bound-Implies bound-Iff bound-Quantified bound-no_formula bound-formulas
