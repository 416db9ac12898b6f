-- What a term, an atom or a formula means is written as the same again.
use Rattle.std.proofs.Common.{◌≡◌, ◌∙◌, ◌&&◌, ◌||◌, ℕ, true, false, refl, sym, ap, true≢false, List, [], ◌∷◌, map, Option, Some, None}
use Rattle.std.specs.Prelude.{is_none, slice_index_or}
use Rattle.std.specs.List.{list_any, list_all}
use Rattle.am_term.specs.Names.{is_name}
use Rattle.am_term.proofs.Tests.{and_left, and_right}
use Rattle.am_syntax.specs.declared.scope.Flaw.TheVariants.{UnknownName, Unbound}
use Rattle.am_syntax.specs.declared.scope.Standing.{Standing}
use Rattle.am_syntax.specs.declared.scope.Standing.TheVariants.{Variable, Input, Barred}
use Rattle.am_syntax.specs.declared.written.Words.{Words}
use Rattle.am_syntax.specs.declared.written.WrittenTerm.{WrittenTerm}
use Rattle.am_syntax.specs.declared.written.WrittenTerm.TheVariants.{Alone, Headed}
use Rattle.am_syntax.specs.declared.written.WrittenAtom.{WrittenAtom}
use Rattle.am_syntax.specs.declared.written.WrittenAtom.TheVariants.{Equation, Relation}
use Rattle.am_syntax.specs.declared.written.WrittenFormula.{WrittenFormula}
use Rattle.am_syntax.specs.declared.written.WrittenFormula.TheVariants.{Atom as Atomic, Not, And, Or, Implies, Iff, Quantified}
use Rattle.am_syntax.specs.Induct.{written_term_induct, written_terms_induct}
use Rattle.am_syntax.specs.InductFormula.{written_formula_induct}
use Rattle.am_syntax.specs.Forms.{is_some_list, is_spellable, is_spellable_atom, is_spellable_formula}
use Rattle.am_syntax.specs.Scopes.{Scope, standing_of, symbol_of}
use Rattle.am_syntax.specs.Flaws.{has_unknown_name, has_unbound, is_unbound, atom_has, formula_has, has_quantifier}
use Rattle.am_syntax.specs.Meaning.{named_symbol, alone_term, term_meaning, atom_meaning, formula_meaning}
use Rattle.am_syntax.specs.Naming.{Naming, applied, named_term, named_atom, named_formula}
use Rattle.am_syntax.specs.Laws.{NamesBack}
use Rattle.am_syntax.proofs.Among.{none_left, none_right}
use Rattle.am_syntax.proofs.Known.{known, known-named}
use Rattle.am_syntax.proofs.Equations.{has_unknown_name-Headed, has_unbound-Alone, has_unbound-Headed, term_meaning-Alone, term_meaning-Headed, named_term-Var, named_term-In, named_term-App, is_spellable-Headed, formula_has-Atom, formula_has-Not, formula_has-And, formula_has-Or, formula_has-Implies, formula_has-Iff, has_quantifier-Not, has_quantifier-And, has_quantifier-Or, has_quantifier-Implies, has_quantifier-Iff, has_quantifier-Quantified, is_spellable_formula-Atom, is_spellable_formula-Not, is_spellable_formula-And, is_spellable_formula-Or, is_spellable_formula-Implies, is_spellable_formula-Iff, formula_meaning-Atom, formula_meaning-Not, formula_meaning-And, formula_meaning-Or, formula_meaning-Implies, formula_meaning-Iff, named_formula-Atom, named_formula-Not, named_formula-And, named_formula-Or, named_formula-Implies, named_formula-Iff}

module _ (s : Scope) (n : Naming) (words : Words) (b : NamesBack s n) where
  -- the symbol of a name is written by that name
  symbol-back : (w : List ℕ) → is_none (symbol_of s w) ≡ false → slice_index_or n.symbols (named_symbol s w).0 [] ≡ w
  symbol-back w e =
      let k = known s w e in
      ap (λ f. slice_index_or n.symbols f.0 []) (known-named s w k) ∙ b.symbols w k.number k.found

  -- a name alone, by what it stands for
  alone-back : (w : List ℕ) (o : Option Standing) → standing_of w s.bound ≡ o → is_unbound o (symbol_of s w) ≡ false → named_term n (alone_term s o w) ≡ Alone w
  alone-back w None p u = named_term-App n (named_symbol s w) [] ∙ ap Alone (symbol-back w u)
  alone-back w (Some (Variable k sort)) p u = named_term-Var n k sort ∙ ap Alone (b.variables w k sort p)
  alone-back w (Some (Input k sort)) p u = named_term-In n k ∙ ap Alone (b.inputs w k sort p)
  alone-back w (Some Barred) p u = absurd (true≢false u)

  applied-some : (h : List ℕ) (ts : List WrittenTerm) → is_some_list ts ≡ true → applied h ts ≡ Headed h ts
  applied-some h [] e = absurd (true≢false (sym e))
  applied-some h (t ∷ ts) e = refl

  -- ---- all terms
  abbrev pub TermBack : WrittenTerm → Type 0
  TermBack t = is_spellable words t ≡ true → has_unknown_name s t ≡ false → has_unbound s t ≡ false → named_term n (term_meaning s t) ≡ t

  abbrev pub TermsBack : List WrittenTerm → Type 0
  TermsBack ts = list_all (is_spellable words) ts ≡ true → list_any (has_unknown_name s) ts ≡ false → list_any (has_unbound s) ts ≡ false → map (named_term n) (map (term_meaning s) ts) ≡ ts

  back-Alone : (w : List ℕ) → TermBack (Alone w)
  back-Alone w p e u = ap (named_term n) (term_meaning-Alone s w) ∙ alone-back w (standing_of w s.bound) refl (sym (has_unbound-Alone s w) ∙ u)

  back-Headed : (h : List ℕ) (args : List WrittenTerm) → TermsBack args → TermBack (Headed h args)
  back-Headed h args k p e u =
      let spellable = and_right (is_name h) (is_some_list args && list_all (is_spellable words) args) (sym (is_spellable-Headed words h args) ∙ p) in
      let known_all : (is_none (symbol_of s h) || list_any (has_unknown_name s) args) ≡ false = sym (has_unknown_name-Headed s h args) ∙ e in
      ap (named_term n) (term_meaning-Headed s h args)
      ∙ named_term-App n (named_symbol s h) (map (term_meaning s) args)
      ∙ ap (λ w. applied w (map (named_term n) (map (term_meaning s) args))) (symbol-back h (none_left (is_none (symbol_of s h)) (list_any (has_unknown_name s) args) known_all))
      ∙ ap (applied h) (k (and_right (is_some_list args) (list_all (is_spellable words) args) spellable) (none_right (is_none (symbol_of s h)) (list_any (has_unknown_name s) args) known_all) (sym (has_unbound-Headed s h args) ∙ u))
      ∙ applied-some h args (and_left (is_some_list args) (list_all (is_spellable words) args) spellable)

  back-none : TermsBack []
  back-none p e u = refl

  back-more : (t : WrittenTerm) (ts : List WrittenTerm) → TermBack t → TermsBack ts → TermsBack (t ∷ ts)
  back-more t ts k ks p e u =
      ap (λ x. x ∷ map (named_term n) (map (term_meaning s) ts)) (k (and_left (is_spellable words t) (list_all (is_spellable words) ts) p) (none_left (has_unknown_name s t) (list_any (has_unknown_name s) ts) e) (none_left (has_unbound s t) (list_any (has_unbound s) ts) u))
      ∙ ap (λ xs. t ∷ xs) (ks (and_right (is_spellable words t) (list_all (is_spellable words) ts) p) (none_right (has_unknown_name s t) (list_any (has_unknown_name s) ts) e) (none_right (has_unbound s t) (list_any (has_unbound s) ts) u))

  pub term-back : (t : WrittenTerm) → TermBack t
  term-back = written_term_induct TermBack TermsBack back-Alone back-Headed back-none back-more

  pub terms-back : (ts : List WrittenTerm) → TermsBack ts
  terms-back = written_terms_induct TermBack TermsBack back-Alone back-Headed back-none back-more

  -- ---- atoms
  pub atom-back : (a : WrittenAtom) → is_spellable_atom words a ≡ true → atom_has s UnknownName a ≡ false → atom_has s Unbound a ≡ false → named_atom n (atom_meaning s a) ≡ a
  atom-back (Equation left right) p e u =
      ap (λ x. Equation x (named_term n (term_meaning s right))) (term-back left (and_left (is_spellable words left) (is_spellable words right) p) (none_left (has_unknown_name s left) (has_unknown_name s right) e) (none_left (has_unbound s left) (has_unbound s right) u))
      ∙ ap (Equation left) (term-back right (and_right (is_spellable words left) (is_spellable words right) p) (none_right (has_unknown_name s left) (has_unknown_name s right) e) (none_right (has_unbound s left) (has_unbound s right) u))
  atom-back (Relation r args) p e u =
      ap (λ w. Relation w (map (named_term n) (map (term_meaning s) args))) (symbol-back r (none_left (is_none (symbol_of s r)) (list_any (has_unknown_name s) args) e))
      ∙ ap (Relation r) (terms-back args (and_right (is_name r) (list_all (is_spellable words) args) p) (none_right (is_none (symbol_of s r)) (list_any (has_unknown_name s) args) e) u)

  -- ---- formulas
  abbrev pub FormulaBack : WrittenFormula → Type 0
  FormulaBack f = is_spellable_formula words f ≡ true → formula_has s UnknownName f ≡ false → formula_has s Unbound f ≡ false → has_quantifier f ≡ false → named_formula n (formula_meaning s f) ≡ f

  abbrev pub FormulasBack : List WrittenFormula → Type 0
  FormulasBack fs = list_all (is_spellable_formula words) fs ≡ true → list_any (formula_has s UnknownName) fs ≡ false → list_any (formula_has s Unbound) fs ≡ false → list_any has_quantifier fs ≡ false → map (named_formula n) (map (formula_meaning s) fs) ≡ fs

  back-Atom : (a : WrittenAtom) → FormulaBack (Atomic a)
  back-Atom a p e u q =
      ap (named_formula n) (formula_meaning-Atom s a)
      ∙ named_formula-Atom n (atom_meaning s a)
      ∙ ap Atomic (atom-back a (sym (is_spellable_formula-Atom words a) ∙ p) (sym (formula_has-Atom s UnknownName a) ∙ e) (sym (formula_has-Atom s Unbound a) ∙ u))

  back-Not : (f : WrittenFormula) → FormulaBack f → FormulaBack (Not f)
  back-Not f k p e u q =
      ap (named_formula n) (formula_meaning-Not s f)
      ∙ named_formula-Not n (formula_meaning s f)
      ∙ ap Not (k (sym (is_spellable_formula-Not words f) ∙ p) (sym (formula_has-Not s UnknownName f) ∙ e) (sym (formula_has-Not s Unbound f) ∙ u) (sym (has_quantifier-Not f) ∙ q))

  back-And : (fs : List WrittenFormula) → FormulasBack fs → FormulaBack (And fs)
  back-And fs k p e u q =
      ap (named_formula n) (formula_meaning-And s fs)
      ∙ named_formula-And n (map (formula_meaning s) fs)
      ∙ ap And (k (and_right (is_some_list fs) (list_all (is_spellable_formula words) fs) (sym (is_spellable_formula-And words fs) ∙ p)) (sym (formula_has-And s UnknownName fs) ∙ e) (sym (formula_has-And s Unbound fs) ∙ u) (sym (has_quantifier-And fs) ∙ q))

  back-Or : (fs : List WrittenFormula) → FormulasBack fs → FormulaBack (Or fs)
  back-Or fs k p e u q =
      ap (named_formula n) (formula_meaning-Or s fs)
      ∙ named_formula-Or n (map (formula_meaning s) fs)
      ∙ ap Or (k (and_right (is_some_list fs) (list_all (is_spellable_formula words) fs) (sym (is_spellable_formula-Or words fs) ∙ p)) (sym (formula_has-Or s UnknownName fs) ∙ e) (sym (formula_has-Or s Unbound fs) ∙ u) (sym (has_quantifier-Or fs) ∙ q))

  -- two formulas, both with what is asked
  both-back : (f g : WrittenFormula) → FormulaBack f → FormulaBack g → (is_spellable_formula words f && is_spellable_formula words g) ≡ true → (formula_has s UnknownName f || formula_has s UnknownName g) ≡ false → (formula_has s Unbound f || formula_has s Unbound g) ≡ false → (has_quantifier f || has_quantifier g) ≡ false → (named_formula n (formula_meaning s f) ≡ f) × (named_formula n (formula_meaning s g) ≡ g)
  both-back f g k l p e u q = (
    k (and_left (is_spellable_formula words f) (is_spellable_formula words g) p) (none_left (formula_has s UnknownName f) (formula_has s UnknownName g) e) (none_left (formula_has s Unbound f) (formula_has s Unbound g) u) (none_left (has_quantifier f) (has_quantifier g) q),
    l (and_right (is_spellable_formula words f) (is_spellable_formula words g) p) (none_right (formula_has s UnknownName f) (formula_has s UnknownName g) e) (none_right (formula_has s Unbound f) (formula_has s Unbound g) u) (none_right (has_quantifier f) (has_quantifier g) q),
  )

  back-Implies : (f g : WrittenFormula) → FormulaBack f → FormulaBack g → FormulaBack (Implies f g)
  back-Implies f g k l p e u q =
      let both = both-back f g k l (sym (is_spellable_formula-Implies words f g) ∙ p) (sym (formula_has-Implies s UnknownName f g) ∙ e) (sym (formula_has-Implies s Unbound f g) ∙ u) (sym (has_quantifier-Implies f g) ∙ q) in
      ap (named_formula n) (formula_meaning-Implies s f g)
      ∙ named_formula-Implies n (formula_meaning s f) (formula_meaning s g)
      ∙ ap (λ x. Implies x (named_formula n (formula_meaning s g))) both.0
      ∙ ap (Implies f) both.1

  back-Iff : (f g : WrittenFormula) → FormulaBack f → FormulaBack g → FormulaBack (Iff f g)
  back-Iff f g k l p e u q =
      let both = both-back f g k l (sym (is_spellable_formula-Iff words f g) ∙ p) (sym (formula_has-Iff s UnknownName f g) ∙ e) (sym (formula_has-Iff s Unbound f g) ∙ u) (sym (has_quantifier-Iff f g) ∙ q) in
      ap (named_formula n) (formula_meaning-Iff s f g)
      ∙ named_formula-Iff n (formula_meaning s f) (formula_meaning s g)
      ∙ ap (λ x. Iff x (named_formula n (formula_meaning s g))) both.0
      ∙ ap (Iff f) both.1

  back-Quantified : FormulaBack Quantified
  back-Quantified p e u q = absurd (true≢false (sym has_quantifier-Quantified ∙ q))

  back-no_formula : FormulasBack []
  back-no_formula p e u q = refl

  back-formulas : (f : WrittenFormula) (fs : List WrittenFormula) → FormulaBack f → FormulasBack fs → FormulasBack (f ∷ fs)
  back-formulas f fs k ks p e u q =
      ap (λ x. x ∷ map (named_formula n) (map (formula_meaning s) fs)) (k (and_left (is_spellable_formula words f) (list_all (is_spellable_formula words) fs) p) (none_left (formula_has s UnknownName f) (list_any (formula_has s UnknownName) fs) e) (none_left (formula_has s Unbound f) (list_any (formula_has s Unbound) fs) u) (none_left (has_quantifier f) (list_any has_quantifier fs) q))
      ∙ ap (λ xs. f ∷ xs) (ks (and_right (is_spellable_formula words f) (list_all (is_spellable_formula words) fs) p) (none_right (formula_has s UnknownName f) (list_any (formula_has s UnknownName) fs) e) (none_right (formula_has s Unbound f) (list_any (formula_has s Unbound) fs) u) (none_right (has_quantifier f) (list_any has_quantifier fs) q))

  pub formula-back : (f : WrittenFormula) → FormulaBack f
  formula-back = written_formula_induct FormulaBack FormulasBack back-Atom back-Not back-And back-Or back-Implies back-Iff back-Quantified back-no_formula back-formulas
