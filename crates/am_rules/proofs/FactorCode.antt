-- The code of factoring.
use Rattle.std.proofs.Common.{◌≡◌, ◌∙◌, ◌+◌, ℕ, arith, refl, ap, List, [], ◌∷◌, Some, None, option_map}
use Rattle.std.proofs.lemmas.Grind.{common_steps}
use Rattle.am_term.specs.declared.term.Term.{Term}
use Rattle.am_term.specs.declared.term.Term.TheVariants.{Var, App}
use Rattle.am_term.specs.Induct.{term_induct}
use Rattle.am_rules.specs.Asked.{Pairs}
use Rattle.am_rules.specs.Solving.{shifted, all_shifted, apart, shifted-Var, shifted-In, shifted-App}

-- shifting by nothing
pub shifted-none : (t : Term) → shifted 0 t ≡ t
shifted-none = term_induct (λ t. shifted 0 t ≡ t) (λ ts. all_shifted 0 ts ≡ ts)
    (λ n s. shifted-Var 0 n s ∙ ap (λ i. Var i s) (none n))
    (λ k. shifted-In 0 k)
    (λ f ts h. shifted-App 0 f ts ∙ ap (App f) h)
    refl
    (λ t ts h k. ap (λ x. x ∷ all_shifted 0 ts) h ∙ ap (λ xs. t ∷ xs) k)
  where
    none : (n : ℕ) → n + 0 ≡ n
    none n = omega arith

pub apart-none : (ps : List (Term × Term)) → apart 0 ps ≡ ps
apart-none [] = refl
apart-none (p ∷ ps) = ap (λ (t : Term). let e : Term × Term = (p.0, t) in e ∷ apart 0 ps) (shifted-none p.1) ∙ ap (λ qs. p ∷ qs) (apart-none ps)

pub pairs-none : (o : Pairs) → option_map (apart 0) o ≡ o
pairs-none None = refl
pairs-none (Some ps) = ap Some (apart-none ps)

pub ruleset factor_pairing = (common_steps, pairs-none)
