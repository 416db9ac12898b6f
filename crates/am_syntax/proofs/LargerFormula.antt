-- In a scope that extends another, atoms and formulas that have their names there are the same.
use Rattle.std.proofs.Common.{◌≡◌, ◌∙◌, ◌||◌, false, refl, sym, ap, List, [], ◌∷◌, map, ℕ}
use Rattle.std.specs.Prelude.{is_none, length}
use Rattle.std.specs.List.{list_any}
use Rattle.am_term.specs.declared.term.Atom.TheVariants.{Rel, Eq}
use Rattle.am_term.specs.declared.term.Formula.TheVariants as formula
use Rattle.am_syntax.specs.declared.scope.Flaw.{Flaw}
use Rattle.am_syntax.specs.declared.scope.Flaw.TheVariants.{UnknownName, BadSort, BadArity, Unbound}
use Rattle.am_syntax.specs.declared.written.WrittenTerm.{WrittenTerm}
use Rattle.am_syntax.specs.declared.written.WrittenAtom.{WrittenAtom}
use Rattle.am_syntax.specs.declared.written.WrittenAtom.TheVariants.{Equation, Relation}
use Rattle.am_syntax.specs.declared.written.WrittenFormula.{WrittenFormula}
use Rattle.am_syntax.specs.declared.written.WrittenFormula.TheVariants.{Atom as Atomic, Not, And, Or, Implies, Iff, Quantified}
use Rattle.am_syntax.specs.InductFormula.{written_formula_induct}
use Rattle.am_syntax.specs.Scopes.{Scope, symbol_of, argument_sorts_of}
use Rattle.am_syntax.specs.Flaws.{has_unknown_name, has_unbound, term_has, written_sort, written_sorts, some_misfit, is_function, is_miscounted, are_apart, relation_has, equation_has, atom_has, formula_has}
use Rattle.am_syntax.specs.Meaning.{named_symbol, term_meaning, formula_meaning}
use Rattle.am_syntax.specs.Laws.{Extends, IsSameIn, IsSameAtomIn, IsSameFormulaIn}
use Rattle.am_syntax.proofs.Among.{none_left, none_right}
use Rattle.am_syntax.proofs.Equations.{formula_has-Atom, formula_has-Not, formula_has-And, formula_has-Or, formula_has-Implies, formula_has-Iff, formula_has-Quantified, formula_meaning-Atom, formula_meaning-Not, formula_meaning-And, formula_meaning-Or, formula_meaning-Implies, formula_meaning-Iff, formula_meaning-Quantified}
use Rattle.am_syntax.proofs.ScopeSorts.{sort-in, apart-kept}
use Rattle.am_syntax.proofs.Larger.{AreSameIn, symbol-kept, named-kept, some_misfit-kept, term-kept, terms-kept}

-- formulas have the same flaws and meanings in two scopes
pub record AreSameFormulasIn (s r : Scope) (fs : List WrittenFormula) : Type 0 where
  pub flaws : (flaw : Flaw) → list_any (formula_has r flaw) fs ≡ list_any (formula_has s flaw) fs
  pub meanings : map (formula_meaning r) fs ≡ map (formula_meaning s) fs

module _ (s r : Scope) (x : Extends s r) where
  -- ---- equations
  equation-kept : (left right : WrittenTerm) → IsSameIn s r left → IsSameIn s r right → (flaw : Flaw) → equation_has r flaw left right ≡ equation_has s flaw left right
  equation-kept left right k l UnknownName = refl
  equation-kept left right k l BadSort =
      ap (λ o. are_apart r.parents o (written_sort r right)) k.sort
      ∙ ap (λ o. are_apart r.parents (written_sort s left) o) l.sort
      ∙ apart-kept s r x (written_sort s left) (written_sort s right) (sort-in s r x left) (sort-in s r x right)
  equation-kept left right k l BadArity = refl
  equation-kept left right k l Unbound = refl

  same-Equation : (left right : WrittenTerm) → IsSameIn s r left → IsSameIn s r right → IsSameAtomIn s r (Equation left right)
  same-Equation left right k l = record {
    flaws = λ flaw.
        ap (λ b. b || (term_has r flaw left || term_has r flaw right)) (equation-kept left right k l flaw)
        ∙ ap (λ b. equation_has s flaw left right || (b || term_has r flaw right)) (k.flaws flaw)
        ∙ ap (λ b. equation_has s flaw left right || (term_has s flaw left || b)) (l.flaws flaw);
    meaning = ap (λ u. Eq u (term_meaning r right)) k.meaning ∙ ap (Eq (term_meaning s left)) l.meaning;
  }

  -- ---- relations
  relation-kept : (n : List ℕ) (args : List WrittenTerm) → symbol_of r n ≡ symbol_of s n → AreSameIn s r args → (flaw : Flaw) → relation_has r flaw n args ≡ relation_has s flaw n args
  relation-kept n args same k UnknownName = ap is_none same
  relation-kept n args same k BadSort =
      ap (λ y. is_function y || some_misfit r.parents (written_sorts r args) (argument_sorts_of y)) same
      ∙ ap (λ os. is_function (symbol_of s n) || some_misfit r.parents os (argument_sorts_of (symbol_of s n))) k.sorts
      ∙ ap (λ b. is_function (symbol_of s n) || b) (some_misfit-kept s r x args (argument_sorts_of (symbol_of s n)))
  relation-kept n args same k BadArity = ap (λ y. is_miscounted y (length args)) same
  relation-kept n args same k Unbound = refl

  same-Relation : (n : List ℕ) (args : List WrittenTerm) → is_none (symbol_of s n) ≡ false → AreSameIn s r args → IsSameAtomIn s r (Relation n args)
  same-Relation n args e k = record {
    flaws = λ flaw.
        ap (λ b. b || list_any (term_has r flaw) args) (relation-kept n args (symbol-kept s r x n e) k flaw)
        ∙ ap (λ b. relation_has s flaw n args || b) (k.flaws flaw);
    meaning = ap (λ f. Rel f (map (term_meaning r) args)) (named-kept s r x n e) ∙ ap (Rel (named_symbol s n)) k.meanings;
  }

  pub atom-kept : (a : WrittenAtom) → atom_has s UnknownName a ≡ false → atom_has s Unbound a ≡ false → IsSameAtomIn s r a
  atom-kept (Equation left right) e u =
      same-Equation left right
      (term-kept s r x left (none_left (has_unknown_name s left) (has_unknown_name s right) e) (none_left (has_unbound s left) (has_unbound s right) u))
      (term-kept s r x right (none_right (has_unknown_name s left) (has_unknown_name s right) e) (none_right (has_unbound s left) (has_unbound s right) u))
  atom-kept (Relation n args) e u =
      same-Relation n args (none_left (is_none (symbol_of s n)) (list_any (has_unknown_name s) args) e)
      (terms-kept s r x args (none_right (is_none (symbol_of s n)) (list_any (has_unknown_name s) args) e) u)

  -- ---- formulas
  abbrev pub FormulaKept : WrittenFormula → Type 0
  FormulaKept f = formula_has s UnknownName f ≡ false → formula_has s Unbound f ≡ false → IsSameFormulaIn s r f

  abbrev pub FormulasKept : List WrittenFormula → Type 0
  FormulasKept fs = list_any (formula_has s UnknownName) fs ≡ false → list_any (formula_has s Unbound) fs ≡ false → AreSameFormulasIn s r fs

  kept-Atom : (a : WrittenAtom) → FormulaKept (Atomic a)
  kept-Atom a e u =
      let k = atom-kept a (sym (formula_has-Atom s UnknownName a) ∙ e) (sym (formula_has-Atom s Unbound a) ∙ u) in
      record {
        flaws = λ flaw. formula_has-Atom r flaw a ∙ k.flaws flaw ∙ sym (formula_has-Atom s flaw a);
        meaning = formula_meaning-Atom r a ∙ ap formula.Atom k.meaning ∙ sym (formula_meaning-Atom s a);
      }

  kept-Not : (f : WrittenFormula) → FormulaKept f → FormulaKept (Not f)
  kept-Not f h e u =
      let k = h (sym (formula_has-Not s UnknownName f) ∙ e) (sym (formula_has-Not s Unbound f) ∙ u) in
      record {
        flaws = λ flaw. formula_has-Not r flaw f ∙ k.flaws flaw ∙ sym (formula_has-Not s flaw f);
        meaning = formula_meaning-Not r f ∙ ap formula.Not k.meaning ∙ sym (formula_meaning-Not s f);
      }

  kept-And : (fs : List WrittenFormula) → FormulasKept fs → FormulaKept (And fs)
  kept-And fs h e u =
      let k = h (sym (formula_has-And s UnknownName fs) ∙ e) (sym (formula_has-And s Unbound fs) ∙ u) in
      record {
        flaws = λ flaw. formula_has-And r flaw fs ∙ k.flaws flaw ∙ sym (formula_has-And s flaw fs);
        meaning = formula_meaning-And r fs ∙ ap formula.And k.meanings ∙ sym (formula_meaning-And s fs);
      }

  kept-Or : (fs : List WrittenFormula) → FormulasKept fs → FormulaKept (Or fs)
  kept-Or fs h e u =
      let k = h (sym (formula_has-Or s UnknownName fs) ∙ e) (sym (formula_has-Or s Unbound fs) ∙ u) in
      record {
        flaws = λ flaw. formula_has-Or r flaw fs ∙ k.flaws flaw ∙ sym (formula_has-Or s flaw fs);
        meaning = formula_meaning-Or r fs ∙ ap formula.Or k.meanings ∙ sym (formula_meaning-Or s fs);
      }

  -- two formulas, both without the flaws
  both-kept : (f g : WrittenFormula) → FormulaKept f → FormulaKept g → (formula_has s UnknownName f || formula_has s UnknownName g) ≡ false → (formula_has s Unbound f || formula_has s Unbound g) ≡ false → IsSameFormulaIn s r f × IsSameFormulaIn s r g
  both-kept f g h k e u = (
    h (none_left (formula_has s UnknownName f) (formula_has s UnknownName g) e) (none_left (formula_has s Unbound f) (formula_has s Unbound g) u),
    k (none_right (formula_has s UnknownName f) (formula_has s UnknownName g) e) (none_right (formula_has s Unbound f) (formula_has s Unbound g) u),
  )

  both-flaws : (f g : WrittenFormula) → IsSameFormulaIn s r f × IsSameFormulaIn s r g → (flaw : Flaw) → (formula_has r flaw f || formula_has r flaw g) ≡ (formula_has s flaw f || formula_has s flaw g)
  both-flaws f g k flaw = ap (λ b. b || formula_has r flaw g) (k.0.flaws flaw) ∙ ap (λ b. formula_has s flaw f || b) (k.1.flaws flaw)

  kept-Implies : (f g : WrittenFormula) → FormulaKept f → FormulaKept g → FormulaKept (Implies f g)
  kept-Implies f g h i e u =
      let k = both-kept f g h i (sym (formula_has-Implies s UnknownName f g) ∙ e) (sym (formula_has-Implies s Unbound f g) ∙ u) in
      record {
        flaws = λ flaw. formula_has-Implies r flaw f g ∙ both-flaws f g k flaw ∙ sym (formula_has-Implies s flaw f g);
        meaning = formula_meaning-Implies r f g ∙ ap (λ x. formula.Implies x (formula_meaning r g)) k.0.meaning ∙ ap (formula.Implies (formula_meaning s f)) k.1.meaning ∙ sym (formula_meaning-Implies s f g);
      }

  kept-Iff : (f g : WrittenFormula) → FormulaKept f → FormulaKept g → FormulaKept (Iff f g)
  kept-Iff f g h i e u =
      let k = both-kept f g h i (sym (formula_has-Iff s UnknownName f g) ∙ e) (sym (formula_has-Iff s Unbound f g) ∙ u) in
      record {
        flaws = λ flaw. formula_has-Iff r flaw f g ∙ both-flaws f g k flaw ∙ sym (formula_has-Iff s flaw f g);
        meaning = formula_meaning-Iff r f g ∙ ap (λ x. formula.Iff x (formula_meaning r g)) k.0.meaning ∙ ap (formula.Iff (formula_meaning s f)) k.1.meaning ∙ sym (formula_meaning-Iff s f g);
      }

  kept-Quantified : FormulaKept Quantified
  kept-Quantified e u = record {
    flaws = λ flaw. formula_has-Quantified r flaw ∙ sym (formula_has-Quantified s flaw);
    meaning = formula_meaning-Quantified r ∙ sym (formula_meaning-Quantified s);
  }

  kept-none : FormulasKept []
  kept-none e u = record { flaws = λ flaw. refl; meanings = refl }

  kept-more : (f : WrittenFormula) (fs : List WrittenFormula) → FormulaKept f → FormulasKept fs → FormulasKept (f ∷ fs)
  kept-more f fs k ks e u =
      let here = k (none_left (formula_has s UnknownName f) (list_any (formula_has s UnknownName) fs) e) (none_left (formula_has s Unbound f) (list_any (formula_has s Unbound) fs) u) in
      let there = ks (none_right (formula_has s UnknownName f) (list_any (formula_has s UnknownName) fs) e) (none_right (formula_has s Unbound f) (list_any (formula_has s Unbound) fs) u) in
      record {
        flaws = λ flaw. ap (λ b. b || list_any (formula_has r flaw) fs) (here.flaws flaw) ∙ ap (λ b. formula_has s flaw f || b) (there.flaws flaw);
        meanings = ap (λ x. x ∷ map (formula_meaning r) fs) here.meaning ∙ ap (λ xs. formula_meaning s f ∷ xs) there.meanings;
      }

  pub formula-kept : (f : WrittenFormula) → FormulaKept f
  formula-kept = written_formula_induct FormulaKept FormulasKept kept-Atom kept-Not kept-And kept-Or kept-Implies kept-Iff kept-Quantified kept-none kept-more
