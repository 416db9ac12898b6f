-- Induction over written formulas: a claim on formulas and a claim on lists of formulas, proved at once.
use Rattle.std.specs.Prelude.{◌≡◌, List, [], ◌∷◌, map}
use Rattle.std.proofs.Common.{subst, sym}
use Rattle.am_syntax.specs.declared.written.WrittenAtom.{WrittenAtom}
use Rattle.am_syntax.specs.declared.written.WrittenFormula.{WrittenFormula}
use Rattle.am_syntax.specs.declared.written.WrittenFormula.TheOpen.{WrittenFormula-F}
use Rattle.am_syntax.specs.declared.written.WrittenFormula.TheViews.{roll-WrittenFormula}
use Rattle.am_syntax.specs.declared.written.WrittenFormula.TheVariants.{Atom as Atomic, Not, And, Or, Implies, Iff, Quantified, rolls-Atom, rolls-Not, rolls-And, rolls-Or, rolls-Implies, rolls-Iff, rolls-Quantified}
use Rattle.am_syntax.specs.declared.written.WrittenFormula.TheFolds.{ind-WrittenFormula, map-WrittenFormula}

module _ (P : WrittenFormula → Type 0) (Q : List WrittenFormula → Type 0)
    (atom : (a : WrittenAtom) → P (Atomic a))
    (negated : (f : WrittenFormula) → P f → P (Not f))
    (every : (fs : List WrittenFormula) → Q fs → P (And fs))
    (some : (fs : List WrittenFormula) → Q fs → P (Or fs))
    (implied : (f g : WrittenFormula) → P f → P g → P (Implies f g))
    (equal : (f g : WrittenFormula) → P f → P g → P (Iff f g))
    (quantified : P Quantified)
    (none : Q []) (more : (f : WrittenFormula) (fs : List WrittenFormula) → P f → Q fs → Q (f ∷ fs)) where
  such_list : (es : List ((f : WrittenFormula) × P f)) → Q (map (λ e. e.0) es)
  such_list [] = none
  such_list (e ∷ es) = more e.0 (map (λ d. d.0) es) e.1 (such_list es)

  step : (x : WrittenFormula-F WrittenFormula) (y : WrittenFormula-F ((f : WrittenFormula) × P f)) → map-WrittenFormula ((f : WrittenFormula) × P f) WrittenFormula (λ e. e.0) y ≡ x → P (roll-WrittenFormula x)
  step x (WrittenFormula-F.Atom a) is = subst (λ z. P (roll-WrittenFormula z)) is (subst P (sym (rolls-Atom a)) (atom a))
  step x (WrittenFormula-F.Not e) is = subst (λ z. P (roll-WrittenFormula z)) is (subst P (sym (rolls-Not e.0)) (negated e.0 e.1))
  step x (WrittenFormula-F.And es) is = subst (λ z. P (roll-WrittenFormula z)) is (subst P (sym (rolls-And (map (λ e. e.0) es))) (every (map (λ e. e.0) es) (such_list es)))
  step x (WrittenFormula-F.Or es) is = subst (λ z. P (roll-WrittenFormula z)) is (subst P (sym (rolls-Or (map (λ e. e.0) es))) (some (map (λ e. e.0) es) (such_list es)))
  step x (WrittenFormula-F.Implies e d) is = subst (λ z. P (roll-WrittenFormula z)) is (subst P (sym (rolls-Implies e.0 d.0)) (implied e.0 d.0 e.1 d.1))
  step x (WrittenFormula-F.Iff e d) is = subst (λ z. P (roll-WrittenFormula z)) is (subst P (sym (rolls-Iff e.0 d.0)) (equal e.0 d.0 e.1 d.1))
  step x WrittenFormula-F.Quantified is = subst (λ z. P (roll-WrittenFormula z)) is (subst P (sym rolls-Quantified) quantified)

  pub written_formula_induct : (f : WrittenFormula) → P f
  written_formula_induct = ind-WrittenFormula P step

  pub written_formulas_induct : (fs : List WrittenFormula) → Q fs
  written_formulas_induct [] = none
  written_formulas_induct (f ∷ fs) = more f fs (written_formula_induct f) (written_formulas_induct fs)

-- the cases of a formula
module _ (P : WrittenFormula → Type 0)
    (atom : (a : WrittenAtom) → P (Atomic a)) (negated : (f : WrittenFormula) → P (Not f))
    (every : (fs : List WrittenFormula) → P (And fs)) (some : (fs : List WrittenFormula) → P (Or fs))
    (implied : (f g : WrittenFormula) → P (Implies f g)) (equal : (f g : WrittenFormula) → P (Iff f g)) (quantified : P Quantified) where
  pub written_formula_cases : (f : WrittenFormula) → P f
  written_formula_cases = written_formula_induct P (λ fs. Unit {0}) atom (λ f h. negated f) (λ fs h. every fs) (λ fs h. some fs) (λ f g h k. implied f g) (λ f g h k. equal f g) quantified tt (λ f fs h k. tt)
