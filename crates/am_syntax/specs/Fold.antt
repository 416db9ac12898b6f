-- What a fold over written terms gives at each kind of term.
use Rattle.std.specs.Prelude.{◌≡◌, ℕ, List, map}
use Rattle.std.proofs.Common.{ap, sym, ◌∙◌}
use Rattle.am_syntax.specs.declared.written.WrittenTerm.{WrittenTerm}
use Rattle.am_syntax.specs.declared.written.WrittenTerm.TheOpen.{WrittenTerm-F}
use Rattle.am_syntax.specs.declared.written.WrittenTerm.TheVariants.{Alone, Headed, rolls-Alone, rolls-Headed}
use Rattle.am_syntax.specs.declared.written.WrittenTerm.TheFolds.{fold-WrittenTerm, fold-roll-WrittenTerm, para-WrittenTerm, para-roll-WrittenTerm}

-- a step that sees what was made of the arguments
module _ (A : Type 0) (step : WrittenTerm-F A → A) where
  pub fold-Alone : (w : List ℕ) → fold-WrittenTerm A step (Alone w) ≡ step (WrittenTerm-F.Alone w)
  fold-Alone w = ap (fold-WrittenTerm A step) (sym (rolls-Alone w)) ∙ fold-roll-WrittenTerm A step (WrittenTerm-F.Alone w)

  pub fold-Headed : (h : List ℕ) (args : List WrittenTerm) → fold-WrittenTerm A step (Headed h args) ≡ step (WrittenTerm-F.Headed h (map (fold-WrittenTerm A step) args))
  fold-Headed h args = ap (fold-WrittenTerm A step) (sym (rolls-Headed h args)) ∙ fold-roll-WrittenTerm A step (WrittenTerm-F.Headed h args)

-- a step that sees the arguments too
module _ (A : Type 0) (step : WrittenTerm-F (WrittenTerm × A) → A) where
  pub para-Alone : (w : List ℕ) → para-WrittenTerm A step (Alone w) ≡ step (WrittenTerm-F.Alone w)
  para-Alone w = ap (para-WrittenTerm A step) (sym (rolls-Alone w)) ∙ para-roll-WrittenTerm A step (WrittenTerm-F.Alone w)

  pub para-Headed : (h : List ℕ) (args : List WrittenTerm) → para-WrittenTerm A step (Headed h args) ≡ step (WrittenTerm-F.Headed h (map (λ y. (y, para-WrittenTerm A step y)) args))
  para-Headed h args = ap (para-WrittenTerm A step) (sym (rolls-Headed h args)) ∙ para-roll-WrittenTerm A step (WrittenTerm-F.Headed h args)
