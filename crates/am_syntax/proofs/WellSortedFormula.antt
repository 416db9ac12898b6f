-- What atoms and formulas without a flaw mean is well sorted.
use Rattle.std.proofs.Common.{◌≡◌, ◌∙◌, ◌&&◌, ◌||◌, ℕ, true, false, refl, sym, ap, true≢false, List, [], ◌∷◌, map, Option, Some, None}
use Rattle.std.specs.Prelude.{is_none, length}
use Rattle.std.specs.List.{list_any, list_all}
use Rattle.am_term.specs.declared.id.SortId.{SortId}
use Rattle.am_term.specs.declared.signature.Signature.{Signature}
use Rattle.am_term.specs.Sorting.{fit_places, sort_of, sorts_of, are_akin, relates, is_sorted_atom}
use Rattle.am_term.specs.Sorts.{akin_in}
use Rattle.am_term.proofs.Tests.{and_both, false_not}
use Rattle.am_syntax.specs.declared.scope.Flaw.{Flaw}
use Rattle.am_syntax.specs.declared.scope.Flaw.TheVariants.{UnknownName, BadSort, BadArity}
use Rattle.am_syntax.specs.declared.written.WrittenTerm.{WrittenTerm}
use Rattle.am_syntax.specs.declared.written.WrittenAtom.{WrittenAtom}
use Rattle.am_syntax.specs.declared.written.WrittenAtom.TheVariants.{Equation, Relation}
use Rattle.am_syntax.specs.declared.written.WrittenFormula.{WrittenFormula}
use Rattle.am_syntax.specs.declared.written.WrittenFormula.TheVariants.{Atom as Atomic, Not, And, Or, Implies, Iff, Quantified}
use Rattle.am_syntax.specs.InductFormula.{written_formula_induct}
use Rattle.am_syntax.specs.Scopes.{Scope, symbol_of, argument_sorts_of}
use Rattle.am_syntax.specs.Flaws.{term_has, written_sort, written_sorts, some_misfit, is_function, is_miscounted, are_apart, relation_has, equation_has, formula_has, has_quantifier}
use Rattle.am_syntax.specs.Meaning.{term_meaning, atom_meaning, formula_meaning}
use Rattle.am_term.specs.SortedFormula.{is_sorted_formula}
use Rattle.am_syntax.specs.Laws.{MatchesSignature, IsFlawlessAtom, IsFlawlessFormula, IsWellSorted}
use Rattle.am_syntax.proofs.Among.{none_left, none_right}
use Rattle.am_syntax.proofs.Known.{Known, known, known-symbol}
use Rattle.am_syntax.proofs.Equations.{formula_has-Atom, formula_has-Not, formula_has-And, formula_has-Or, formula_has-Implies, formula_has-Iff, has_quantifier-Not, has_quantifier-And, has_quantifier-Or, has_quantifier-Implies, has_quantifier-Iff, has_quantifier-Quantified, formula_meaning-Atom, formula_meaning-Not, formula_meaning-And, formula_meaning-Or, formula_meaning-Implies, formula_meaning-Iff, is_sorted_formula-Atom, is_sorted_formula-Not, is_sorted_formula-And, is_sorted_formula-Or, is_sorted_formula-Implies, is_sorted_formula-Iff}
use Rattle.am_syntax.proofs.WellSorted.{AreWellSorted, akin-is, symbol-known, symbol-named, args-fit, term-sorted, terms-sorted}

module _ (s : Scope) (sig : Signature) (ins : List SortId) (m : MatchesSignature s sig ins) where
  -- ---- equations
  akin-there : (o p : Option SortId) (a b : SortId) → o ≡ Some a → p ≡ Some b → are_apart s.parents o p ≡ false → are_akin sig o p ≡ true
  akin-there None p a b e f h = absurd cc
  akin-there (Some c) None a b e f h = absurd cc
  akin-there (Some c) (Some d) a b e f h = sym (akin-is s sig ins m c d) ∙ false_not (akin_in s.parents c d) h

  sorted-Equation : (left right : WrittenTerm) → IsWellSorted s sig ins left → IsWellSorted s sig ins right → are_apart s.parents (written_sort s left) (written_sort s right) ≡ false → is_sorted_atom sig ins (atom_meaning s (Equation left right)) ≡ true
  sorted-Equation left right k l e =
      ap (λ o. are_akin sig o (sort_of sig ins (term_meaning s right))) (k.meant ∙ sym k.written)
      ∙ ap (are_akin sig (written_sort s left)) (l.meant ∙ sym l.written)
      ∙ akin-there (written_sort s left) (written_sort s right) k.sort l.sort k.written l.written e

  -- ---- relations
  sorted-Relation : (n : List ℕ) (args : List WrittenTerm) (k : Known s n) → is_function (Some k.symbol) ≡ false → is_miscounted (Some k.symbol) (length args) ≡ false → some_misfit s.parents (written_sorts s args) k.symbol.args ≡ false → AreWellSorted s sig ins m args → is_sorted_atom sig ins (atom_meaning s (Relation n args)) ≡ true
  sorted-Relation n args k e c f a =
      let y = symbol-known s sig ins m n k in
      ap (λ o. relates sig o (sorts_of sig ins (map (term_meaning s) args))) (symbol-named s sig ins m n k y)
      ∙ ap (λ z. is_none z.result && fit_places sig (sorts_of sig ins (map (term_meaning s) args)) z.args) y.same
      ∙ and_both (is_none k.symbol.result) (fit_places sig (sorts_of sig ins (map (term_meaning s) args)) k.symbol.args)
      (false_not (is_none k.symbol.result) e) (args-fit s sig ins m args a k.symbol c f)

  pub atom-sorted : (a : WrittenAtom) → IsFlawlessAtom s a → is_sorted_atom sig ins (atom_meaning s a) ≡ true
  atom-sorted (Equation left right) f =
      sorted-Equation left right
      (term-sorted s sig ins m left (λ flaw. none_left (term_has s flaw left) (term_has s flaw right) (none_right (equation_has s flaw left right) (term_has s flaw left || term_has s flaw right) (f flaw))))
      (term-sorted s sig ins m right (λ flaw. none_right (term_has s flaw left) (term_has s flaw right) (none_right (equation_has s flaw left right) (term_has s flaw left || term_has s flaw right) (f flaw))))
      (none_left (are_apart s.parents (written_sort s left) (written_sort s right)) (term_has s BadSort left || term_has s BadSort right) (f BadSort))
  atom-sorted (Relation n args) f =
      let flawless : (flaw : Flaw) → relation_has s flaw n args ≡ false = λ flaw. none_left (relation_has s flaw n args) (list_any (term_has s flaw) args) (f flaw) in
      let k = known s n (flawless UnknownName) in
      sorted-Relation n args k
      (ap is_function (sym (known-symbol s n k)) ∙ none_left (is_function (symbol_of s n)) (some_misfit s.parents (written_sorts s args) (argument_sorts_of (symbol_of s n))) (flawless BadSort))
      (ap (λ y. is_miscounted y (length args)) (sym (known-symbol s n k)) ∙ flawless BadArity)
      (ap (λ y. some_misfit s.parents (written_sorts s args) (argument_sorts_of y)) (sym (known-symbol s n k)) ∙ none_right (is_function (symbol_of s n)) (some_misfit s.parents (written_sorts s args) (argument_sorts_of (symbol_of s n))) (flawless BadSort))
      (terms-sorted s sig ins m args (λ flaw. none_right (relation_has s flaw n args) (list_any (term_has s flaw) args) (f flaw)))

  -- ---- formulas
  abbrev pub FormulaSorted : WrittenFormula → Type 0
  FormulaSorted f = IsFlawlessFormula s f → has_quantifier f ≡ false → is_sorted_formula sig ins (formula_meaning s f) ≡ true

  abbrev pub FormulasSorted : List WrittenFormula → Type 0
  FormulasSorted fs = ((flaw : Flaw) → list_any (formula_has s flaw) fs ≡ false) → list_any has_quantifier fs ≡ false → list_all (is_sorted_formula sig ins) (map (formula_meaning s) fs) ≡ true

  sorted-Atom : (a : WrittenAtom) → FormulaSorted (Atomic a)
  sorted-Atom a f q =
      ap (is_sorted_formula sig ins) (formula_meaning-Atom s a)
      ∙ is_sorted_formula-Atom sig ins (atom_meaning s a)
      ∙ atom-sorted a (λ flaw. sym (formula_has-Atom s flaw a) ∙ f flaw)

  sorted-Not : (f : WrittenFormula) → FormulaSorted f → FormulaSorted (Not f)
  sorted-Not f h e q =
      ap (is_sorted_formula sig ins) (formula_meaning-Not s f)
      ∙ is_sorted_formula-Not sig ins (formula_meaning s f)
      ∙ h (λ flaw. sym (formula_has-Not s flaw f) ∙ e flaw) (sym (has_quantifier-Not f) ∙ q)

  sorted-And : (fs : List WrittenFormula) → FormulasSorted fs → FormulaSorted (And fs)
  sorted-And fs h e q =
      ap (is_sorted_formula sig ins) (formula_meaning-And s fs)
      ∙ is_sorted_formula-And sig ins (map (formula_meaning s) fs)
      ∙ h (λ flaw. sym (formula_has-And s flaw fs) ∙ e flaw) (sym (has_quantifier-And fs) ∙ q)

  sorted-Or : (fs : List WrittenFormula) → FormulasSorted fs → FormulaSorted (Or fs)
  sorted-Or fs h e q =
      ap (is_sorted_formula sig ins) (formula_meaning-Or s fs)
      ∙ is_sorted_formula-Or sig ins (map (formula_meaning s) fs)
      ∙ h (λ flaw. sym (formula_has-Or s flaw fs) ∙ e flaw) (sym (has_quantifier-Or fs) ∙ q)

  -- two formulas, both without a flaw and without a quantifier
  both-sorted : (f g : WrittenFormula) → FormulaSorted f → FormulaSorted g → ((flaw : Flaw) → (formula_has s flaw f || formula_has s flaw g) ≡ false) → (has_quantifier f || has_quantifier g) ≡ false → (is_sorted_formula sig ins (formula_meaning s f) && is_sorted_formula sig ins (formula_meaning s g)) ≡ true
  both-sorted f g h k e q =
      and_both (is_sorted_formula sig ins (formula_meaning s f)) (is_sorted_formula sig ins (formula_meaning s g))
      (h (λ flaw. none_left (formula_has s flaw f) (formula_has s flaw g) (e flaw)) (none_left (has_quantifier f) (has_quantifier g) q))
      (k (λ flaw. none_right (formula_has s flaw f) (formula_has s flaw g) (e flaw)) (none_right (has_quantifier f) (has_quantifier g) q))

  sorted-Implies : (f g : WrittenFormula) → FormulaSorted f → FormulaSorted g → FormulaSorted (Implies f g)
  sorted-Implies f g h k e q =
      ap (is_sorted_formula sig ins) (formula_meaning-Implies s f g)
      ∙ is_sorted_formula-Implies sig ins (formula_meaning s f) (formula_meaning s g)
      ∙ both-sorted f g h k (λ flaw. sym (formula_has-Implies s flaw f g) ∙ e flaw) (sym (has_quantifier-Implies f g) ∙ q)

  sorted-Iff : (f g : WrittenFormula) → FormulaSorted f → FormulaSorted g → FormulaSorted (Iff f g)
  sorted-Iff f g h k e q =
      ap (is_sorted_formula sig ins) (formula_meaning-Iff s f g)
      ∙ is_sorted_formula-Iff sig ins (formula_meaning s f) (formula_meaning s g)
      ∙ both-sorted f g h k (λ flaw. sym (formula_has-Iff s flaw f g) ∙ e flaw) (sym (has_quantifier-Iff f g) ∙ q)

  sorted-Quantified : FormulaSorted Quantified
  sorted-Quantified e q = absurd (true≢false (sym has_quantifier-Quantified ∙ q))

  sorted-none : FormulasSorted []
  sorted-none e q = refl

  sorted-more : (f : WrittenFormula) (fs : List WrittenFormula) → FormulaSorted f → FormulasSorted fs → FormulasSorted (f ∷ fs)
  sorted-more f fs h k e q =
      and_both (is_sorted_formula sig ins (formula_meaning s f)) (list_all (is_sorted_formula sig ins) (map (formula_meaning s) fs))
      (h (λ flaw. none_left (formula_has s flaw f) (list_any (formula_has s flaw) fs) (e flaw)) (none_left (has_quantifier f) (list_any has_quantifier fs) q))
      (k (λ flaw. none_right (formula_has s flaw f) (list_any (formula_has s flaw) fs) (e flaw)) (none_right (has_quantifier f) (list_any has_quantifier fs) q))

  pub formula-sorted : (f : WrittenFormula) → FormulaSorted f
  formula-sorted = written_formula_induct FormulaSorted FormulasSorted sorted-Atom sorted-Not sorted-And sorted-Or sorted-Implies sorted-Iff sorted-Quantified sorted-none sorted-more
