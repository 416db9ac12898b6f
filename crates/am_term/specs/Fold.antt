-- What a fold over terms gives at each kind of term.
use Rattle.std.specs.Prelude.{◌≡◌, ℕ, List, map}
use Rattle.std.proofs.Common.{ap, sym, ◌∙◌}
use Rattle.am_term.specs.declared.id.SortId.{SortId}
use Rattle.am_term.specs.declared.id.SymId.{SymId}
use Rattle.am_term.specs.declared.term.Term.{Term}
use Rattle.am_term.specs.declared.term.Term.TheOpen.{Term-F}
use Rattle.am_term.specs.declared.term.Term.TheVariants.{Var, In, App, rolls-Var, rolls-In, rolls-App}
use Rattle.am_term.specs.declared.term.Term.TheFolds.{fold-Term, fold-roll-Term, para-Term, para-roll-Term}

-- a step that sees what was made of the arguments
module _ (A : Type 0) (step : Term-F A → A) where
  pub fold-Var : (n : ℕ) (s : SortId) → fold-Term A step (Var n s) ≡ step (Term-F.Var n s)
  fold-Var n s = ap (fold-Term A step) (sym (rolls-Var n s)) ∙ fold-roll-Term A step (Term-F.Var n s)

  pub fold-In : (k : ℕ) → fold-Term A step (In k) ≡ step (Term-F.In k)
  fold-In k = ap (fold-Term A step) (sym (rolls-In k)) ∙ fold-roll-Term A step (Term-F.In k)

  pub fold-App : (f : SymId) (args : List Term) → fold-Term A step (App f args) ≡ step (Term-F.App f (map (fold-Term A step) args))
  fold-App f args = ap (fold-Term A step) (sym (rolls-App f args)) ∙ fold-roll-Term A step (Term-F.App f args)

-- a step that sees the arguments too
module _ (A : Type 0) (step : Term-F (Term × A) → A) where
  pub para-Var : (n : ℕ) (s : SortId) → para-Term A step (Var n s) ≡ step (Term-F.Var n s)
  para-Var n s = ap (para-Term A step) (sym (rolls-Var n s)) ∙ para-roll-Term A step (Term-F.Var n s)

  pub para-In : (k : ℕ) → para-Term A step (In k) ≡ step (Term-F.In k)
  para-In k = ap (para-Term A step) (sym (rolls-In k)) ∙ para-roll-Term A step (Term-F.In k)

  pub para-App : (f : SymId) (args : List Term) → para-Term A step (App f args) ≡ step (Term-F.App f (map (λ y. (y, para-Term A step y)) args))
  para-App f args = ap (para-Term A step) (sym (rolls-App f args)) ∙ para-roll-Term A step (Term-F.App f args)
