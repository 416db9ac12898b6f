-- Induction over formulas: a claim on formulas and a claim on lists of formulas, proved at once.
use Rattle.std.specs.Prelude.{◌≡◌, List, [], ◌∷◌, map}
use Rattle.std.proofs.Common.{subst, sym}
use Rattle.am_term.specs.declared.term.Atom.{Atom}
use Rattle.am_term.specs.declared.term.Formula.{Formula}
use Rattle.am_term.specs.declared.term.Formula.TheOpen.{Formula-F}
use Rattle.am_term.specs.declared.term.Formula.TheViews.{roll-Formula}
use Rattle.am_term.specs.declared.term.Formula.TheVariants.{Atom as Atomic, Not, And, Or, Implies, Iff, rolls-Atom, rolls-Not, rolls-And, rolls-Or, rolls-Implies, rolls-Iff}
use Rattle.am_term.specs.declared.term.Formula.TheFolds.{ind-Formula, map-Formula}

module _ (P : Formula → Type 0) (Q : List Formula → Type 0)
    (atom : (a : Atom) → P (Atomic a))
    (negated : (f : Formula) → P f → P (Not f))
    (every : (fs : List Formula) → Q fs → P (And fs))
    (some : (fs : List Formula) → Q fs → P (Or fs))
    (implied : (f g : Formula) → P f → P g → P (Implies f g))
    (equal : (f g : Formula) → P f → P g → P (Iff f g))
    (none : Q []) (more : (f : Formula) (fs : List Formula) → P f → Q fs → Q (f ∷ fs)) where
  such_list : (es : List ((f : Formula) × P f)) → Q (map (λ e. e.0) es)
  such_list [] = none
  such_list (e ∷ es) = more e.0 (map (λ d. d.0) es) e.1 (such_list es)

  step : (x : Formula-F Formula) (y : Formula-F ((f : Formula) × P f)) → map-Formula ((f : Formula) × P f) Formula (λ e. e.0) y ≡ x → P (roll-Formula x)
  step x (Formula-F.Atom a) is = subst (λ z. P (roll-Formula z)) is (subst P (sym (rolls-Atom a)) (atom a))
  step x (Formula-F.Not e) is = subst (λ z. P (roll-Formula z)) is (subst P (sym (rolls-Not e.0)) (negated e.0 e.1))
  step x (Formula-F.And es) is = subst (λ z. P (roll-Formula z)) is (subst P (sym (rolls-And (map (λ e. e.0) es))) (every (map (λ e. e.0) es) (such_list es)))
  step x (Formula-F.Or es) is = subst (λ z. P (roll-Formula z)) is (subst P (sym (rolls-Or (map (λ e. e.0) es))) (some (map (λ e. e.0) es) (such_list es)))
  step x (Formula-F.Implies e d) is = subst (λ z. P (roll-Formula z)) is (subst P (sym (rolls-Implies e.0 d.0)) (implied e.0 d.0 e.1 d.1))
  step x (Formula-F.Iff e d) is = subst (λ z. P (roll-Formula z)) is (subst P (sym (rolls-Iff e.0 d.0)) (equal e.0 d.0 e.1 d.1))

  pub formula_induct : (f : Formula) → P f
  formula_induct = ind-Formula P step

  pub formulas_induct : (fs : List Formula) → Q fs
  formulas_induct [] = none
  formulas_induct (f ∷ fs) = more f fs (formula_induct f) (formulas_induct fs)

-- the cases of a formula
module _ (P : Formula → Type 0)
    (atom : (a : Atom) → P (Atomic a)) (negated : (f : Formula) → P (Not f))
    (every : (fs : List Formula) → P (And fs)) (some : (fs : List Formula) → P (Or fs))
    (implied : (f g : Formula) → P (Implies f g)) (equal : (f g : Formula) → P (Iff f g)) where
  pub formula_cases : (f : Formula) → P f
  formula_cases = formula_induct P (λ fs. Unit {0}) atom (λ f h. negated f) (λ fs h. every fs) (λ fs h. some fs) (λ f g h k. implied f g) (λ f g h k. equal f g) tt (λ f fs h k. tt)
