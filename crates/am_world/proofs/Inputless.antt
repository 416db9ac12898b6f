-- What is well sorted where there are no inputs is true or false whatever the inputs are.
use Rattle.std.proofs.Common.{◌≡◌, ◌∙◌, ◌==◌, ◌&&◌, ◌||◌, ℕ, Bool, true, false, not, refl, sym, ap, if◌then◌else◌, List, [], ◌∷◌, map, slice_get, Option, Some, None, is_none}
use Rattle.std.specs.List.{list_any, list_all}
use Rattle.std.proofs.lemmas.List.Folds.{list_all-map}
use Rattle.am_term.specs.declared.id.SortId.{SortId}
use Rattle.am_term.specs.declared.id.SymId.{SymId}
use Rattle.am_term.specs.declared.symbol.Symbol.{Symbol}
use Rattle.am_term.specs.declared.signature.Signature.{Signature}
use Rattle.am_term.specs.declared.term.Term.{Term}
use Rattle.am_term.specs.declared.term.Term.TheVariants.{In, App}
use Rattle.am_term.specs.declared.term.Atom.{Atom}
use Rattle.am_term.specs.declared.term.Atom.TheVariants.{Rel, Eq}
use Rattle.am_term.specs.declared.term.Formula.{Formula}
use Rattle.am_term.specs.declared.term.Formula.TheVariants.{Atom as Atomic, Not, And, Or, Implies, Iff}
use Rattle.am_term.specs.FoldFormula.{fold-Atom, fold-Not, fold-And, fold-Or, fold-Implies, fold-Iff}
use Rattle.am_term.specs.Induct.{term_induct}
use Rattle.am_term.specs.InductFormula.{formula_induct}
use Rattle.am_term.specs.Sorting.{sort_of, sorts_of, fits_place, fit_places, result_at, are_akin, relates, is_sorted_atom, sort_of-In, sort_of-App}
use Rattle.am_term.proofs.Tests.{and_left, and_right}
use Rattle.am_world.specs.Interpretation.{Interpretation}
use Rattle.am_world.specs.Value.{Assignment, value, values, atom_truth, value-Var, value-App}
use Rattle.am_world.specs.Truth.{truth, truth_step, agree}
use Rattle.am_term.specs.SortedFormula.{is_sorted_formula, sorted_step}

module _ (sig : Signature) (w : Interpretation) (ins : List ℕ) (a : Assignment) where
  abbrev IsFree : Term → Type 0
  IsFree t = (s : SortId) → sort_of sig [] t ≡ Some s → value w ins a t ≡ value w [] a t

  abbrev AreFree : List Term → Type 0
  AreFree ts = (ps : List SortId) → fit_places sig (sorts_of sig [] ts) ps ≡ true → values w ins a ts ≡ values w [] a ts

  free-In : (k : ℕ) → IsFree (In k)
  free-In k s e = let nothing : List SortId = [] in let none : slice_get nothing k ≡ Some s = sym (sort_of-In sig [] k) ∙ e in absurd cc

  free-App : (f : SymId) (args : List Term) → AreFree args → IsFree (App f args)
  free-App f args h s e = value-App w ins a f args ∙ (ap (w.fun f) (by_symbol (slice_get sig.symbols f.0) (sym (sort_of-App sig [] f args) ∙ e)) ∙ sym (value-App w [] a f args))
    where
      by_fit : (y : Symbol) (b : Bool) → fit_places sig (sorts_of sig [] args) y.args ≡ b → (if b then y.result else None) ≡ Some s → values w ins a args ≡ values w [] a args
      by_fit y true fit e = h y.args fit
      by_fit y false fit e = absurd cc

      by_symbol : (o : Option Symbol) → result_at sig o (sorts_of sig [] args) ≡ Some s → values w ins a args ≡ values w [] a args
      by_symbol None e = absurd cc
      by_symbol (Some y) e = by_fit y (fit_places sig (sorts_of sig [] args) y.args) refl e

  free-none : AreFree []
  free-none ps e = refl

  free-more : (t : Term) (ts : List Term) → IsFree t → AreFree ts → AreFree (t ∷ ts)
  free-more t ts h k [] e = absurd cc
  free-more t ts h k (p ∷ ps) e =
      ap (λ n. n ∷ values w ins a ts) (by_sort (sort_of sig [] t) refl (and_left (fits_place sig (sort_of sig [] t) p) (fit_places sig (sorts_of sig [] ts) ps) e))
      ∙ ap (λ ns. value w [] a t ∷ ns) (k ps (and_right (fits_place sig (sort_of sig [] t) p) (fit_places sig (sorts_of sig [] ts) ps) e))
    where
      by_sort : (o : Option SortId) → sort_of sig [] t ≡ o → fits_place sig o p ≡ true → value w ins a t ≡ value w [] a t
      by_sort None is f = absurd cc
      by_sort (Some s) is f = h s is

  pub value-free : (t : Term) → IsFree t
  value-free = term_induct IsFree AreFree (λ n s q e. value-Var w ins a n s ∙ sym (value-Var w [] a n s)) free-In free-App free-none free-more

  pub values-free : (ts : List Term) → AreFree ts
  values-free [] = free-none
  values-free (t ∷ ts) = free-more t ts (value-free t) (values-free ts)

  side-free : (t u : Term) (o v : Option SortId) → sort_of sig [] t ≡ o → sort_of sig [] u ≡ v → are_akin sig o v ≡ true → atom_truth w ins a (Eq t u) ≡ atom_truth w [] a (Eq t u)
  side-free t u None v is at e = absurd cc
  side-free t u (Some s) None is at e = absurd cc
  side-free t u (Some s) (Some r) is at e = ap (λ n. n == value w ins a u) (value-free t s is) ∙ ap (λ n. value w [] a t == n) (value-free u r at)

  pub atom-free : (x : Atom) → is_sorted_atom sig [] x ≡ true → atom_truth w ins a x ≡ atom_truth w [] a x
  atom-free (Rel r args) e = ap (w.rel r) (by_symbol (slice_get sig.symbols r.0) e)
    where
      by_symbol : (o : Option Symbol) → relates sig o (sorts_of sig [] args) ≡ true → values w ins a args ≡ values w [] a args
      by_symbol None e = absurd cc
      by_symbol (Some y) e = values-free args y.args (and_right (is_none y.result) (fit_places sig (sorts_of sig [] args) y.args) e)
  atom-free (Eq t u) e = side-free t u (sort_of sig [] t) (sort_of sig [] u) refl refl e

  -- ---- formulas

  abbrev sorted : Formula → Bool
  sorted = is_sorted_formula sig []

  sorted-Atom : (x : Atom) → sorted (Atomic x) ≡ is_sorted_atom sig [] x
  unfolding is_sorted_formula
  sorted-Atom = fold-Atom Bool (sorted_step sig [])

  sorted-Not : (f : Formula) → sorted (Not f) ≡ sorted f
  unfolding is_sorted_formula
  sorted-Not = fold-Not Bool (sorted_step sig [])

  sorted-And : (fs : List Formula) → sorted (And fs) ≡ list_all sorted fs
  unfolding is_sorted_formula
  sorted-And fs = fold-And Bool (sorted_step sig []) fs ∙ list_all-map (λ b. b) sorted fs

  sorted-Or : (fs : List Formula) → sorted (Or fs) ≡ list_all sorted fs
  unfolding is_sorted_formula
  sorted-Or fs = fold-Or Bool (sorted_step sig []) fs ∙ list_all-map (λ b. b) sorted fs

  sorted-Implies : (f g : Formula) → sorted (Implies f g) ≡ (sorted f && sorted g)
  unfolding is_sorted_formula
  sorted-Implies = fold-Implies Bool (sorted_step sig [])

  sorted-Iff : (f g : Formula) → sorted (Iff f g) ≡ (sorted f && sorted g)
  unfolding is_sorted_formula
  sorted-Iff = fold-Iff Bool (sorted_step sig [])

any-map : {X Y : Type 0} (p : Y → Bool) (f : X → Y) (xs : List X) → list_any p (map f xs) ≡ list_any (λ x. p (f x)) xs
any-map p f [] = refl
any-map p f (x ∷ xs) = ap (λ b. p (f x) || b) (any-map p f xs)

module _ (w : Interpretation) (ins : List ℕ) (a : Assignment) where
  truth-Atom : (x : Atom) → truth w ins a (Atomic x) ≡ atom_truth w ins a x
  unfolding truth
  truth-Atom = fold-Atom Bool (truth_step w ins a)

  truth-Not : (f : Formula) → truth w ins a (Not f) ≡ not (truth w ins a f)
  unfolding truth
  truth-Not = fold-Not Bool (truth_step w ins a)

  truth-And : (fs : List Formula) → truth w ins a (And fs) ≡ list_all (truth w ins a) fs
  unfolding truth
  truth-And fs = fold-And Bool (truth_step w ins a) fs ∙ list_all-map (λ b. b) (truth w ins a) fs

  pub truth-Or : (fs : List Formula) → truth w ins a (Or fs) ≡ list_any (truth w ins a) fs
  unfolding truth
  truth-Or fs = fold-Or Bool (truth_step w ins a) fs ∙ any-map (λ b. b) (truth w ins a) fs

  truth-Implies : (f g : Formula) → truth w ins a (Implies f g) ≡ (not (truth w ins a f) || truth w ins a g)
  unfolding truth
  truth-Implies = fold-Implies Bool (truth_step w ins a)

  truth-Iff : (f g : Formula) → truth w ins a (Iff f g) ≡ agree (truth w ins a f) (truth w ins a g)
  unfolding truth
  truth-Iff = fold-Iff Bool (truth_step w ins a)

module _ (sig : Signature) (w : Interpretation) (ins : List ℕ) (a : Assignment) where
  abbrev now : Formula → Bool
  now = truth w ins a

  abbrev bare : Formula → Bool
  bare = truth w [] a

  abbrev good : Formula → Bool
  good = is_sorted_formula sig []

  abbrev FormulaFree : Formula → Type 0
  FormulaFree f = good f ≡ true → now f ≡ bare f

  record FormulasFree (fs : List Formula) : Type 0 where
    every : list_all good fs ≡ true → list_all now fs ≡ list_all bare fs
    some : list_all good fs ≡ true → list_any now fs ≡ list_any bare fs

  two-free : (op : Bool → Bool → Bool) (f g : Formula) → FormulaFree f → FormulaFree g → (good f && good g) ≡ true → op (now f) (now g) ≡ op (bare f) (bare g)
  two-free op f g h k e = ap (λ b. op b (now g)) (h (and_left (good f) (good g) e)) ∙ ap (op (bare f)) (k (and_right (good f) (good g) e))

  pub formula-free : (f : Formula) → FormulaFree f
  formula-free = formula_induct FormulaFree FormulasFree
      (λ x e. truth-Atom w ins a x ∙ (atom-free sig w ins a x (sym (sorted-Atom sig w ins a x) ∙ e) ∙ sym (truth-Atom w [] a x)))
      (λ f h e. truth-Not w ins a f ∙ (ap not (h (sym (sorted-Not sig w ins a f) ∙ e)) ∙ sym (truth-Not w [] a f)))
      (λ fs h e. truth-And w ins a fs ∙ (h.every (sym (sorted-And sig w ins a fs) ∙ e) ∙ sym (truth-And w [] a fs)))
      (λ fs h e. truth-Or w ins a fs ∙ (h.some (sym (sorted-Or sig w ins a fs) ∙ e) ∙ sym (truth-Or w [] a fs)))
      (λ f g h k e. truth-Implies w ins a f g ∙ (two-free (λ b c. not b || c) f g h k (sym (sorted-Implies sig w ins a f g) ∙ e) ∙ sym (truth-Implies w [] a f g)))
      (λ f g h k e. truth-Iff w ins a f g ∙ (two-free agree f g h k (sym (sorted-Iff sig w ins a f g) ∙ e) ∙ sym (truth-Iff w [] a f g)))
      (record { every = λ e. refl; some = λ e. refl })
      (λ f fs h k. record {
        every = λ e. ap (λ b. b && list_all now fs) (h (and_left (good f) (list_all good fs) e)) ∙ ap (λ b. bare f && b) (k.every (and_right (good f) (list_all good fs) e));
        some = λ e. ap (λ b. b || list_any now fs) (h (and_left (good f) (list_all good fs) e)) ∙ ap (λ b. bare f || b) (k.some (and_right (good f) (list_all good fs) e));
      })
