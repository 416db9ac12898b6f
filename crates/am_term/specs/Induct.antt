-- Induction over terms: a claim on terms and a claim on lists of terms, proved at once.
use Rattle.std.specs.Prelude.{◌≡◌, ℕ, List, [], ◌∷◌, map}
use Rattle.std.proofs.Common.{subst, sym}
use Rattle.am_term.specs.declared.id.SortId.{SortId}
use Rattle.am_term.specs.declared.id.SymId.{SymId}
use Rattle.am_term.specs.declared.term.Term.{Term}
use Rattle.am_term.specs.declared.term.Term.TheOpen.{Term-F}
use Rattle.am_term.specs.declared.term.Term.TheViews.{roll-Term}
use Rattle.am_term.specs.declared.term.Term.TheVariants.{Var, In, App, rolls-Var, rolls-In, rolls-App}
use Rattle.am_term.specs.declared.term.Term.TheFolds.{ind-Term, map-Term}

module _ (P : Term → Type 0) (Q : List Term → Type 0)
    (var : (n : ℕ) (s : SortId) → P (Var n s)) (inp : (k : ℕ) → P (In k))
    (app : (f : SymId) (args : List Term) → Q args → P (App f args))
    (none : Q []) (more : (t : Term) (ts : List Term) → P t → Q ts → Q (t ∷ ts)) where
  such_list : (es : List ((t : Term) × P t)) → Q (map (λ e. e.0) es)
  such_list [] = none
  such_list (e ∷ es) = more e.0 (map (λ d. d.0) es) e.1 (such_list es)

  step : (x : Term-F Term) (y : Term-F ((t : Term) × P t)) → map-Term ((t : Term) × P t) Term (λ e. e.0) y ≡ x → P (roll-Term x)
  step x (Term-F.Var n s) is = subst (λ z. P (roll-Term z)) is (subst P (sym (rolls-Var n s)) (var n s))
  step x (Term-F.In k) is = subst (λ z. P (roll-Term z)) is (subst P (sym (rolls-In k)) (inp k))
  step x (Term-F.App f es) is = subst (λ z. P (roll-Term z)) is (subst P (sym (rolls-App f (map (λ e. e.0) es))) (app f (map (λ e. e.0) es) (such_list es)))

  pub term_induct : (t : Term) → P t
  term_induct = ind-Term P step

  pub terms_induct : (ts : List Term) → Q ts
  terms_induct [] = none
  terms_induct (t ∷ ts) = more t ts (term_induct t) (terms_induct ts)

-- the cases of a term
module _ (P : Term → Type 0)
    (var : (n : ℕ) (s : SortId) → P (Var n s)) (inp : (k : ℕ) → P (In k))
    (app : (f : SymId) (args : List Term) → P (App f args)) where
  pub term_cases : (t : Term) → P t
  term_cases = term_induct P (λ ts. Unit {0}) var inp (λ f args h. app f args) tt (λ t ts h k. tt)
