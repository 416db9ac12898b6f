-- What a fold over written formulas gives at each kind of formula.
use Rattle.std.specs.Prelude.{◌≡◌, List, map}
use Rattle.std.proofs.Common.{ap, sym, ◌∙◌}
use Rattle.am_syntax.specs.declared.written.WrittenAtom.{WrittenAtom}
use Rattle.am_syntax.specs.declared.written.WrittenFormula.{WrittenFormula}
use Rattle.am_syntax.specs.declared.written.WrittenFormula.TheOpen.{WrittenFormula-F}
use Rattle.am_syntax.specs.declared.written.WrittenFormula.TheVariants.{Atom as Atomic, Not, And, Or, Implies, Iff, Quantified, rolls-Atom, rolls-Not, rolls-And, rolls-Or, rolls-Implies, rolls-Iff, rolls-Quantified}
use Rattle.am_syntax.specs.declared.written.WrittenFormula.TheFolds.{fold-WrittenFormula, fold-roll-WrittenFormula}

module _ (A : Type 0) (step : WrittenFormula-F A → A) where
  pub fold-Atom : (a : WrittenAtom) → fold-WrittenFormula A step (Atomic a) ≡ step (WrittenFormula-F.Atom a)
  fold-Atom a = ap (fold-WrittenFormula A step) (sym (rolls-Atom a)) ∙ fold-roll-WrittenFormula A step (WrittenFormula-F.Atom a)

  pub fold-Not : (f : WrittenFormula) → fold-WrittenFormula A step (Not f) ≡ step (WrittenFormula-F.Not (fold-WrittenFormula A step f))
  fold-Not f = ap (fold-WrittenFormula A step) (sym (rolls-Not f)) ∙ fold-roll-WrittenFormula A step (WrittenFormula-F.Not f)

  pub fold-And : (fs : List WrittenFormula) → fold-WrittenFormula A step (And fs) ≡ step (WrittenFormula-F.And (map (fold-WrittenFormula A step) fs))
  fold-And fs = ap (fold-WrittenFormula A step) (sym (rolls-And fs)) ∙ fold-roll-WrittenFormula A step (WrittenFormula-F.And fs)

  pub fold-Or : (fs : List WrittenFormula) → fold-WrittenFormula A step (Or fs) ≡ step (WrittenFormula-F.Or (map (fold-WrittenFormula A step) fs))
  fold-Or fs = ap (fold-WrittenFormula A step) (sym (rolls-Or fs)) ∙ fold-roll-WrittenFormula A step (WrittenFormula-F.Or fs)

  pub fold-Implies : (f g : WrittenFormula) → fold-WrittenFormula A step (Implies f g) ≡ step (WrittenFormula-F.Implies (fold-WrittenFormula A step f) (fold-WrittenFormula A step g))
  fold-Implies f g = ap (fold-WrittenFormula A step) (sym (rolls-Implies f g)) ∙ fold-roll-WrittenFormula A step (WrittenFormula-F.Implies f g)

  pub fold-Iff : (f g : WrittenFormula) → fold-WrittenFormula A step (Iff f g) ≡ step (WrittenFormula-F.Iff (fold-WrittenFormula A step f) (fold-WrittenFormula A step g))
  fold-Iff f g = ap (fold-WrittenFormula A step) (sym (rolls-Iff f g)) ∙ fold-roll-WrittenFormula A step (WrittenFormula-F.Iff f g)

  pub fold-Quantified : fold-WrittenFormula A step Quantified ≡ step WrittenFormula-F.Quantified
  fold-Quantified = ap (fold-WrittenFormula A step) (sym rolls-Quantified) ∙ fold-roll-WrittenFormula A step WrittenFormula-F.Quantified
