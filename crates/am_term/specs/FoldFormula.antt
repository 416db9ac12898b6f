-- What a fold over formulas gives at each kind of formula.
use Rattle.std.specs.Prelude.{◌≡◌, List, map}
use Rattle.std.proofs.Common.{ap, sym, ◌∙◌}
use Rattle.am_term.specs.declared.term.Atom.{Atom}
use Rattle.am_term.specs.declared.term.Formula.{Formula}
use Rattle.am_term.specs.declared.term.Formula.TheOpen.{Formula-F}
use Rattle.am_term.specs.declared.term.Formula.TheVariants.{Atom as Atomic, Not, And, Or, Implies, Iff, rolls-Atom, rolls-Not, rolls-And, rolls-Or, rolls-Implies, rolls-Iff}
use Rattle.am_term.specs.declared.term.Formula.TheFolds.{fold-Formula, fold-roll-Formula}

module _ (A : Type 0) (step : Formula-F A → A) where
  pub fold-Atom : (a : Atom) → fold-Formula A step (Atomic a) ≡ step (Formula-F.Atom a)
  fold-Atom a = ap (fold-Formula A step) (sym (rolls-Atom a)) ∙ fold-roll-Formula A step (Formula-F.Atom a)

  pub fold-Not : (f : Formula) → fold-Formula A step (Not f) ≡ step (Formula-F.Not (fold-Formula A step f))
  fold-Not f = ap (fold-Formula A step) (sym (rolls-Not f)) ∙ fold-roll-Formula A step (Formula-F.Not f)

  pub fold-And : (fs : List Formula) → fold-Formula A step (And fs) ≡ step (Formula-F.And (map (fold-Formula A step) fs))
  fold-And fs = ap (fold-Formula A step) (sym (rolls-And fs)) ∙ fold-roll-Formula A step (Formula-F.And fs)

  pub fold-Or : (fs : List Formula) → fold-Formula A step (Or fs) ≡ step (Formula-F.Or (map (fold-Formula A step) fs))
  fold-Or fs = ap (fold-Formula A step) (sym (rolls-Or fs)) ∙ fold-roll-Formula A step (Formula-F.Or fs)

  pub fold-Implies : (f g : Formula) → fold-Formula A step (Implies f g) ≡ step (Formula-F.Implies (fold-Formula A step f) (fold-Formula A step g))
  fold-Implies f g = ap (fold-Formula A step) (sym (rolls-Implies f g)) ∙ fold-roll-Formula A step (Formula-F.Implies f g)

  pub fold-Iff : (f g : Formula) → fold-Formula A step (Iff f g) ≡ step (Formula-F.Iff (fold-Formula A step f) (fold-Formula A step g))
  fold-Iff f g = ap (fold-Formula A step) (sym (rolls-Iff f g)) ∙ fold-roll-Formula A step (Formula-F.Iff f g)
