-- What each fold over terms and formulas gives at each kind of term and formula.
use Rattle.std.proofs.Common.{◌≡◌, ◌∙◌, ◌&&◌, ◌||◌, ℕ, Bool, true, false, refl, ap, List, [], ◌∷◌, map, length}
use Rattle.std.specs.Prelude.{slice_index_or, is_none}
use Rattle.std.specs.List.{list_any, list_all}
use Rattle.std.proofs.lemmas.List.{length-map}
use Rattle.std.proofs.lemmas.List.Folds.{list_all-map}
use Rattle.am_term.specs.declared.id.SortId.{SortId}
use Rattle.am_term.specs.declared.id.SymId.{SymId}
use Rattle.am_term.specs.declared.term.Term.{Term}
use Rattle.am_term.specs.declared.term.Term.TheVariants.{Var, In, App}
use Rattle.am_term.specs.declared.term.Atom.{Atom as TermAtom}
use Rattle.am_term.specs.declared.term.Formula.{Formula}
use Rattle.am_term.specs.declared.term.Formula.TheVariants as formula
use Rattle.am_term.specs.Fold.{fold-Var, fold-In, fold-App}
use Rattle.am_term.specs.FoldFormula as term_fold
use Rattle.am_term.specs.Names.{is_name}
use Rattle.am_term.specs.declared.signature.Signature.{Signature}
use Rattle.am_term.specs.Sorting.{is_sorted_atom}
use Rattle.am_syntax.specs.declared.scope.Flaw.{Flaw}
use Rattle.am_syntax.specs.declared.written.Words.{Words}
use Rattle.am_syntax.specs.declared.written.WrittenTerm.{WrittenTerm}
use Rattle.am_syntax.specs.declared.written.WrittenTerm.TheVariants.{Alone, Headed, outs-Alone, outs-Headed}
use Rattle.am_syntax.specs.declared.written.WrittenAtom.{WrittenAtom}
use Rattle.am_syntax.specs.declared.written.WrittenFormula.{WrittenFormula}
use Rattle.am_syntax.specs.declared.written.WrittenFormula.TheVariants.{Atom as Atomic, Not, And, Or, Implies, Iff, Quantified}
use Rattle.am_syntax.specs.Fold.{fold-Alone, fold-Headed, para-Alone, para-Headed}
use Rattle.am_syntax.specs.FoldFormula.{fold-Atom, fold-Not, fold-And, fold-Or, fold-Implies, fold-Iff, fold-Quantified}
use Rattle.am_syntax.specs.Shapes.{may_stand}
use Rattle.am_syntax.specs.Forms.{is_some_list, spellable_step, is_spellable, is_spellable_atom, spellable_formula_step, is_spellable_formula}
use Rattle.am_syntax.specs.Scopes.{Scope, standing_of, symbol_of, result_of, argument_sorts_of, alone_sort}
use Rattle.am_syntax.specs.Flaws.{unknown_step, has_unknown_name, sort_at, written_sort, written_sorts, some_misfit, is_relation, is_lone_relation, parts_terms, parts_flaws, bad_sort_step, has_bad_sort, is_miscounted, is_lone_function, bad_arity_step, has_bad_arity, is_unbound, unbound_step, has_unbound, atom_has, some_atom_step, formula_has, quantifier_step, has_quantifier}
use Rattle.am_syntax.specs.Meaning.{named_symbol, alone_term, meaning_step, term_meaning, atom_meaning, formula_meaning_step, formula_meaning}
use Rattle.am_syntax.specs.Occurring.{occurs_in_atom, occurs_in_step, occurs_in_formula}
use Rattle.am_term.specs.SortedFormula.{sorted_step, is_sorted_formula}
use Rattle.am_syntax.specs.Naming.{Naming, applied, naming_step, named_term, named_atom, named_formula_step, named_formula}
use Rattle.am_syntax.proofs.Among.{any-map}

-- ---- the sort of a term
module _ (s : Scope) where
  pub written_sort-Alone : (w : List ℕ) → written_sort s (Alone w) ≡ alone_sort s w
  unfolding written_sort
  written_sort-Alone w = ap (sort_at s) (outs-Alone w)

  pub written_sort-Headed : (h : List ℕ) (args : List WrittenTerm) → written_sort s (Headed h args) ≡ result_of (symbol_of s h)
  unfolding written_sort
  written_sort-Headed h args = ap (sort_at s) (outs-Headed h args)

  -- ---- flaws of a term
  pub has_unknown_name-Alone : (w : List ℕ) → has_unknown_name s (Alone w) ≡ false
  unfolding has_unknown_name
  has_unknown_name-Alone w = fold-Alone Bool (unknown_step s) w

  pub has_unknown_name-Headed : (h : List ℕ) (args : List WrittenTerm) → has_unknown_name s (Headed h args) ≡ (is_none (symbol_of s h) || list_any (has_unknown_name s) args)
  unfolding has_unknown_name
  has_unknown_name-Headed h args = fold-Headed Bool (unknown_step s) h args ∙ ap (λ b. is_none (symbol_of s h) || b) (any-map (λ b. b) (has_unknown_name s) args)

  parts_terms-of : (ts : List WrittenTerm) → parts_terms (map (λ y. (y, has_bad_sort s y)) ts) ≡ ts
  parts_terms-of [] = refl
  parts_terms-of (t ∷ ts) = ap (λ us. t ∷ us) (parts_terms-of ts)

  parts_flaws-of : (ts : List WrittenTerm) → list_any (λ b. b) (parts_flaws (map (λ y. (y, has_bad_sort s y)) ts)) ≡ list_any (has_bad_sort s) ts
  parts_flaws-of [] = refl
  parts_flaws-of (t ∷ ts) = ap (λ b. has_bad_sort s t || b) (parts_flaws-of ts)

  pub has_bad_sort-Alone : (w : List ℕ) → has_bad_sort s (Alone w) ≡ is_lone_relation s (standing_of w s.bound) w
  unfolding has_bad_sort
  has_bad_sort-Alone w = para-Alone Bool (bad_sort_step s) w

  pub has_bad_sort-Headed : (h : List ℕ) (args : List WrittenTerm) → has_bad_sort s (Headed h args) ≡ (is_relation (symbol_of s h) || (some_misfit s.parents (written_sorts s args) (argument_sorts_of (symbol_of s h)) || list_any (has_bad_sort s) args))
  unfolding has_bad_sort
  has_bad_sort-Headed h args =
      para-Headed Bool (bad_sort_step s) h args
      ∙ ap (λ ts. is_relation (symbol_of s h) || (some_misfit s.parents (written_sorts s ts) (argument_sorts_of (symbol_of s h)) || list_any (λ b. b) (parts_flaws (map (λ y. (y, has_bad_sort s y)) args)))) (parts_terms-of args)
      ∙ ap (λ b. is_relation (symbol_of s h) || (some_misfit s.parents (written_sorts s args) (argument_sorts_of (symbol_of s h)) || b)) (parts_flaws-of args)

  pub has_bad_arity-Alone : (w : List ℕ) → has_bad_arity s (Alone w) ≡ is_lone_function s (standing_of w s.bound) w
  unfolding has_bad_arity
  has_bad_arity-Alone w = fold-Alone Bool (bad_arity_step s) w

  pub has_bad_arity-Headed : (h : List ℕ) (args : List WrittenTerm) → has_bad_arity s (Headed h args) ≡ (is_miscounted (symbol_of s h) (length args) || list_any (has_bad_arity s) args)
  unfolding has_bad_arity
  has_bad_arity-Headed h args =
      fold-Headed Bool (bad_arity_step s) h args
      ∙ ap (λ n. is_miscounted (symbol_of s h) n || list_any (λ b. b) (map (has_bad_arity s) args)) (length-map args (has_bad_arity s))
      ∙ ap (λ b. is_miscounted (symbol_of s h) (length args) || b) (any-map (λ b. b) (has_bad_arity s) args)

  pub has_unbound-Alone : (w : List ℕ) → has_unbound s (Alone w) ≡ is_unbound (standing_of w s.bound) (symbol_of s w)
  unfolding has_unbound
  has_unbound-Alone w = fold-Alone Bool (unbound_step s) w

  pub has_unbound-Headed : (h : List ℕ) (args : List WrittenTerm) → has_unbound s (Headed h args) ≡ list_any (has_unbound s) args
  unfolding has_unbound
  has_unbound-Headed h args = fold-Headed Bool (unbound_step s) h args ∙ any-map (λ b. b) (has_unbound s) args

  -- ---- the meaning of a term
  pub term_meaning-Alone : (w : List ℕ) → term_meaning s (Alone w) ≡ alone_term s (standing_of w s.bound) w
  unfolding term_meaning
  term_meaning-Alone w = fold-Alone Term (meaning_step s) w

  pub term_meaning-Headed : (h : List ℕ) (args : List WrittenTerm) → term_meaning s (Headed h args) ≡ App (named_symbol s h) (map (term_meaning s) args)
  unfolding term_meaning
  term_meaning-Headed h args = fold-Headed Term (meaning_step s) h args

-- ---- the names of a term
module _ (n : Naming) where
  pub named_term-Var : (k : ℕ) (r : SortId) → named_term n (Var k r) ≡ Alone (slice_index_or n.variables k [])
  unfolding named_term
  named_term-Var k r = fold-Var WrittenTerm (naming_step n) k r

  pub named_term-In : (k : ℕ) → named_term n (In k) ≡ Alone (slice_index_or n.inputs k [])
  unfolding named_term
  named_term-In k = fold-In WrittenTerm (naming_step n) k

  pub named_term-App : (f : SymId) (args : List Term) → named_term n (App f args) ≡ applied (slice_index_or n.symbols f.0 []) (map (named_term n) args)
  unfolding named_term
  named_term-App f args = fold-App WrittenTerm (naming_step n) f args

-- ---- terms that a form can be
some-map : {A B : Type 0} (f : A → B) (xs : List A) → is_some_list (map f xs) ≡ is_some_list xs
some-map f [] = refl
some-map f (x ∷ xs) = refl

module _ (words : Words) where
  pub is_spellable-Alone : (w : List ℕ) → is_spellable words (Alone w) ≡ may_stand words w
  unfolding is_spellable
  is_spellable-Alone w = fold-Alone Bool (spellable_step words) w

  pub is_spellable-Headed : (h : List ℕ) (args : List WrittenTerm) → is_spellable words (Headed h args) ≡ (is_name h && (is_some_list args && list_all (is_spellable words) args))
  unfolding is_spellable
  is_spellable-Headed h args =
      fold-Headed Bool (spellable_step words) h args
      ∙ ap (λ b. is_name h && (b && list_all (λ c. c) (map (is_spellable words) args))) (some-map (is_spellable words) args)
      ∙ ap (λ b. is_name h && (is_some_list args && b)) (list_all-map (λ b. b) (is_spellable words) args)

-- ---- flaws of a formula
module _ (s : Scope) (flaw : Flaw) where
  pub formula_has-Atom : (a : WrittenAtom) → formula_has s flaw (Atomic a) ≡ atom_has s flaw a
  unfolding formula_has
  formula_has-Atom a = fold-Atom Bool (some_atom_step (atom_has s flaw)) a

  pub formula_has-Not : (f : WrittenFormula) → formula_has s flaw (Not f) ≡ formula_has s flaw f
  unfolding formula_has
  formula_has-Not f = fold-Not Bool (some_atom_step (atom_has s flaw)) f

  pub formula_has-And : (fs : List WrittenFormula) → formula_has s flaw (And fs) ≡ list_any (formula_has s flaw) fs
  unfolding formula_has
  formula_has-And fs = fold-And Bool (some_atom_step (atom_has s flaw)) fs ∙ any-map (λ b. b) (formula_has s flaw) fs

  pub formula_has-Or : (fs : List WrittenFormula) → formula_has s flaw (Or fs) ≡ list_any (formula_has s flaw) fs
  unfolding formula_has
  formula_has-Or fs = fold-Or Bool (some_atom_step (atom_has s flaw)) fs ∙ any-map (λ b. b) (formula_has s flaw) fs

  pub formula_has-Implies : (f g : WrittenFormula) → formula_has s flaw (Implies f g) ≡ (formula_has s flaw f || formula_has s flaw g)
  unfolding formula_has
  formula_has-Implies f g = fold-Implies Bool (some_atom_step (atom_has s flaw)) f g

  pub formula_has-Iff : (f g : WrittenFormula) → formula_has s flaw (Iff f g) ≡ (formula_has s flaw f || formula_has s flaw g)
  unfolding formula_has
  formula_has-Iff f g = fold-Iff Bool (some_atom_step (atom_has s flaw)) f g

  pub formula_has-Quantified : formula_has s flaw Quantified ≡ false
  unfolding formula_has
  formula_has-Quantified = fold-Quantified Bool (some_atom_step (atom_has s flaw))

-- ---- quantifiers
pub has_quantifier-Atom : (a : WrittenAtom) → has_quantifier (Atomic a) ≡ false
unfolding has_quantifier
has_quantifier-Atom a = fold-Atom Bool quantifier_step a

pub has_quantifier-Not : (f : WrittenFormula) → has_quantifier (Not f) ≡ has_quantifier f
unfolding has_quantifier
has_quantifier-Not f = fold-Not Bool quantifier_step f

pub has_quantifier-And : (fs : List WrittenFormula) → has_quantifier (And fs) ≡ list_any has_quantifier fs
unfolding has_quantifier
has_quantifier-And fs = fold-And Bool quantifier_step fs ∙ any-map (λ b. b) has_quantifier fs

pub has_quantifier-Or : (fs : List WrittenFormula) → has_quantifier (Or fs) ≡ list_any has_quantifier fs
unfolding has_quantifier
has_quantifier-Or fs = fold-Or Bool quantifier_step fs ∙ any-map (λ b. b) has_quantifier fs

pub has_quantifier-Implies : (f g : WrittenFormula) → has_quantifier (Implies f g) ≡ (has_quantifier f || has_quantifier g)
unfolding has_quantifier
has_quantifier-Implies f g = fold-Implies Bool quantifier_step f g

pub has_quantifier-Iff : (f g : WrittenFormula) → has_quantifier (Iff f g) ≡ (has_quantifier f || has_quantifier g)
unfolding has_quantifier
has_quantifier-Iff f g = fold-Iff Bool quantifier_step f g

pub has_quantifier-Quantified : has_quantifier Quantified ≡ true
unfolding has_quantifier
has_quantifier-Quantified = fold-Quantified Bool quantifier_step

-- ---- formulas that a form can be
module _ (words : Words) where
  pub is_spellable_formula-Atom : (a : WrittenAtom) → is_spellable_formula words (Atomic a) ≡ is_spellable_atom words a
  unfolding is_spellable_formula
  is_spellable_formula-Atom a = fold-Atom Bool (spellable_formula_step words) a

  pub is_spellable_formula-Not : (f : WrittenFormula) → is_spellable_formula words (Not f) ≡ is_spellable_formula words f
  unfolding is_spellable_formula
  is_spellable_formula-Not f = fold-Not Bool (spellable_formula_step words) f

  pub is_spellable_formula-And : (fs : List WrittenFormula) → is_spellable_formula words (And fs) ≡ (is_some_list fs && list_all (is_spellable_formula words) fs)
  unfolding is_spellable_formula
  is_spellable_formula-And fs =
      fold-And Bool (spellable_formula_step words) fs
      ∙ ap (λ b. b && list_all (λ c. c) (map (is_spellable_formula words) fs)) (some-map (is_spellable_formula words) fs)
      ∙ ap (λ b. is_some_list fs && b) (list_all-map (λ b. b) (is_spellable_formula words) fs)

  pub is_spellable_formula-Or : (fs : List WrittenFormula) → is_spellable_formula words (Or fs) ≡ (is_some_list fs && list_all (is_spellable_formula words) fs)
  unfolding is_spellable_formula
  is_spellable_formula-Or fs =
      fold-Or Bool (spellable_formula_step words) fs
      ∙ ap (λ b. b && list_all (λ c. c) (map (is_spellable_formula words) fs)) (some-map (is_spellable_formula words) fs)
      ∙ ap (λ b. is_some_list fs && b) (list_all-map (λ b. b) (is_spellable_formula words) fs)

  pub is_spellable_formula-Implies : (f g : WrittenFormula) → is_spellable_formula words (Implies f g) ≡ (is_spellable_formula words f && is_spellable_formula words g)
  unfolding is_spellable_formula
  is_spellable_formula-Implies f g = fold-Implies Bool (spellable_formula_step words) f g

  pub is_spellable_formula-Iff : (f g : WrittenFormula) → is_spellable_formula words (Iff f g) ≡ (is_spellable_formula words f && is_spellable_formula words g)
  unfolding is_spellable_formula
  is_spellable_formula-Iff f g = fold-Iff Bool (spellable_formula_step words) f g

  pub is_spellable_formula-Quantified : is_spellable_formula words Quantified ≡ true
  unfolding is_spellable_formula
  is_spellable_formula-Quantified = fold-Quantified Bool (spellable_formula_step words)

-- ---- the meaning of a formula
module _ (s : Scope) where
  pub formula_meaning-Atom : (a : WrittenAtom) → formula_meaning s (Atomic a) ≡ formula.Atom (atom_meaning s a)
  unfolding formula_meaning
  formula_meaning-Atom a = fold-Atom Formula (formula_meaning_step s) a

  pub formula_meaning-Not : (f : WrittenFormula) → formula_meaning s (Not f) ≡ formula.Not (formula_meaning s f)
  unfolding formula_meaning
  formula_meaning-Not f = fold-Not Formula (formula_meaning_step s) f

  pub formula_meaning-And : (fs : List WrittenFormula) → formula_meaning s (And fs) ≡ formula.And (map (formula_meaning s) fs)
  unfolding formula_meaning
  formula_meaning-And fs = fold-And Formula (formula_meaning_step s) fs

  pub formula_meaning-Or : (fs : List WrittenFormula) → formula_meaning s (Or fs) ≡ formula.Or (map (formula_meaning s) fs)
  unfolding formula_meaning
  formula_meaning-Or fs = fold-Or Formula (formula_meaning_step s) fs

  pub formula_meaning-Implies : (f g : WrittenFormula) → formula_meaning s (Implies f g) ≡ formula.Implies (formula_meaning s f) (formula_meaning s g)
  unfolding formula_meaning
  formula_meaning-Implies f g = fold-Implies Formula (formula_meaning_step s) f g

  pub formula_meaning-Iff : (f g : WrittenFormula) → formula_meaning s (Iff f g) ≡ formula.Iff (formula_meaning s f) (formula_meaning s g)
  unfolding formula_meaning
  formula_meaning-Iff f g = fold-Iff Formula (formula_meaning_step s) f g

  pub formula_meaning-Quantified : formula_meaning s Quantified ≡ formula.And []
  unfolding formula_meaning
  formula_meaning-Quantified = fold-Quantified Formula (formula_meaning_step s)

-- ---- the names of a formula
module _ (n : Naming) where
  pub named_formula-Atom : (a : TermAtom) → named_formula n (formula.Atom a) ≡ Atomic (named_atom n a)
  unfolding named_formula
  named_formula-Atom a = term_fold.fold-Atom WrittenFormula (named_formula_step n) a

  pub named_formula-Not : (f : Formula) → named_formula n (formula.Not f) ≡ Not (named_formula n f)
  unfolding named_formula
  named_formula-Not f = term_fold.fold-Not WrittenFormula (named_formula_step n) f

  pub named_formula-And : (fs : List Formula) → named_formula n (formula.And fs) ≡ And (map (named_formula n) fs)
  unfolding named_formula
  named_formula-And fs = term_fold.fold-And WrittenFormula (named_formula_step n) fs

  pub named_formula-Or : (fs : List Formula) → named_formula n (formula.Or fs) ≡ Or (map (named_formula n) fs)
  unfolding named_formula
  named_formula-Or fs = term_fold.fold-Or WrittenFormula (named_formula_step n) fs

  pub named_formula-Implies : (f g : Formula) → named_formula n (formula.Implies f g) ≡ Implies (named_formula n f) (named_formula n g)
  unfolding named_formula
  named_formula-Implies f g = term_fold.fold-Implies WrittenFormula (named_formula_step n) f g

  pub named_formula-Iff : (f g : Formula) → named_formula n (formula.Iff f g) ≡ Iff (named_formula n f) (named_formula n g)
  unfolding named_formula
  named_formula-Iff f g = term_fold.fold-Iff WrittenFormula (named_formula_step n) f g

-- ---- formulas that are well sorted
module _ (sig : Signature) (ins : List SortId) where
  pub is_sorted_formula-Atom : (a : TermAtom) → is_sorted_formula sig ins (formula.Atom a) ≡ is_sorted_atom sig ins a
  unfolding is_sorted_formula
  is_sorted_formula-Atom a = term_fold.fold-Atom Bool (sorted_step sig ins) a

  pub is_sorted_formula-Not : (f : Formula) → is_sorted_formula sig ins (formula.Not f) ≡ is_sorted_formula sig ins f
  unfolding is_sorted_formula
  is_sorted_formula-Not f = term_fold.fold-Not Bool (sorted_step sig ins) f

  pub is_sorted_formula-And : (fs : List Formula) → is_sorted_formula sig ins (formula.And fs) ≡ list_all (is_sorted_formula sig ins) fs
  unfolding is_sorted_formula
  is_sorted_formula-And fs = term_fold.fold-And Bool (sorted_step sig ins) fs ∙ list_all-map (λ b. b) (is_sorted_formula sig ins) fs

  pub is_sorted_formula-Or : (fs : List Formula) → is_sorted_formula sig ins (formula.Or fs) ≡ list_all (is_sorted_formula sig ins) fs
  unfolding is_sorted_formula
  is_sorted_formula-Or fs = term_fold.fold-Or Bool (sorted_step sig ins) fs ∙ list_all-map (λ b. b) (is_sorted_formula sig ins) fs

  pub is_sorted_formula-Implies : (f g : Formula) → is_sorted_formula sig ins (formula.Implies f g) ≡ (is_sorted_formula sig ins f && is_sorted_formula sig ins g)
  unfolding is_sorted_formula
  is_sorted_formula-Implies f g = term_fold.fold-Implies Bool (sorted_step sig ins) f g

  pub is_sorted_formula-Iff : (f g : Formula) → is_sorted_formula sig ins (formula.Iff f g) ≡ (is_sorted_formula sig ins f && is_sorted_formula sig ins g)
  unfolding is_sorted_formula
  is_sorted_formula-Iff f g = term_fold.fold-Iff Bool (sorted_step sig ins) f g

-- ---- variables of formulas
module _ (n : ℕ) (s : SortId) where
  pub occurs_in_formula-Atom : (a : TermAtom) → occurs_in_formula n s (formula.Atom a) ≡ occurs_in_atom n s a
  unfolding occurs_in_formula
  occurs_in_formula-Atom a = term_fold.fold-Atom Bool (occurs_in_step n s) a

  pub occurs_in_formula-Not : (f : Formula) → occurs_in_formula n s (formula.Not f) ≡ occurs_in_formula n s f
  unfolding occurs_in_formula
  occurs_in_formula-Not f = term_fold.fold-Not Bool (occurs_in_step n s) f

  pub occurs_in_formula-And : (fs : List Formula) → occurs_in_formula n s (formula.And fs) ≡ list_any (occurs_in_formula n s) fs
  unfolding occurs_in_formula
  occurs_in_formula-And fs = term_fold.fold-And Bool (occurs_in_step n s) fs ∙ any-map (λ b. b) (occurs_in_formula n s) fs

  pub occurs_in_formula-Or : (fs : List Formula) → occurs_in_formula n s (formula.Or fs) ≡ list_any (occurs_in_formula n s) fs
  unfolding occurs_in_formula
  occurs_in_formula-Or fs = term_fold.fold-Or Bool (occurs_in_step n s) fs ∙ any-map (λ b. b) (occurs_in_formula n s) fs

  pub occurs_in_formula-Implies : (f g : Formula) → occurs_in_formula n s (formula.Implies f g) ≡ (occurs_in_formula n s f || occurs_in_formula n s g)
  unfolding occurs_in_formula
  occurs_in_formula-Implies f g = term_fold.fold-Implies Bool (occurs_in_step n s) f g

  pub occurs_in_formula-Iff : (f g : Formula) → occurs_in_formula n s (formula.Iff f g) ≡ (occurs_in_formula n s f || occurs_in_formula n s g)
  unfolding occurs_in_formula
  occurs_in_formula-Iff f g = term_fold.fold-Iff Bool (occurs_in_step n s) f g
