-- Induction over written terms: a claim on terms and a claim on lists of terms, proved at once.
use Rattle.std.specs.Prelude.{◌≡◌, ℕ, List, [], ◌∷◌, map}
use Rattle.std.proofs.Common.{subst, sym}
use Rattle.am_syntax.specs.declared.written.WrittenTerm.{WrittenTerm}
use Rattle.am_syntax.specs.declared.written.WrittenTerm.TheOpen.{WrittenTerm-F}
use Rattle.am_syntax.specs.declared.written.WrittenTerm.TheViews.{roll-WrittenTerm}
use Rattle.am_syntax.specs.declared.written.WrittenTerm.TheVariants.{Alone, Headed, rolls-Alone, rolls-Headed}
use Rattle.am_syntax.specs.declared.written.WrittenTerm.TheFolds.{ind-WrittenTerm, map-WrittenTerm}

module _ (P : WrittenTerm → Type 0) (Q : List WrittenTerm → Type 0)
    (alone : (w : List ℕ) → P (Alone w))
    (headed : (h : List ℕ) (args : List WrittenTerm) → Q args → P (Headed h args))
    (none : Q []) (more : (t : WrittenTerm) (ts : List WrittenTerm) → P t → Q ts → Q (t ∷ ts)) where
  such_list : (es : List ((t : WrittenTerm) × P t)) → Q (map (λ e. e.0) es)
  such_list [] = none
  such_list (e ∷ es) = more e.0 (map (λ d. d.0) es) e.1 (such_list es)

  step : (x : WrittenTerm-F WrittenTerm) (y : WrittenTerm-F ((t : WrittenTerm) × P t)) → map-WrittenTerm ((t : WrittenTerm) × P t) WrittenTerm (λ e. e.0) y ≡ x → P (roll-WrittenTerm x)
  step x (WrittenTerm-F.Alone w) is = subst (λ z. P (roll-WrittenTerm z)) is (subst P (sym (rolls-Alone w)) (alone w))
  step x (WrittenTerm-F.Headed h es) is = subst (λ z. P (roll-WrittenTerm z)) is (subst P (sym (rolls-Headed h (map (λ e. e.0) es))) (headed h (map (λ e. e.0) es) (such_list es)))

  pub written_term_induct : (t : WrittenTerm) → P t
  written_term_induct = ind-WrittenTerm P step

  pub written_terms_induct : (ts : List WrittenTerm) → Q ts
  written_terms_induct [] = none
  written_terms_induct (t ∷ ts) = more t ts (written_term_induct t) (written_terms_induct ts)

-- the cases of a written term
module _ (P : WrittenTerm → Type 0) (alone : (w : List ℕ) → P (Alone w)) (headed : (h : List ℕ) (args : List WrittenTerm) → P (Headed h args)) where
  pub written_term_cases : (t : WrittenTerm) → P t
  written_term_cases = written_term_induct P (λ ts. Unit {0}) alone (λ h args k. headed h args) tt (λ t ts h k. tt)
