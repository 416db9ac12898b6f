-- A number occurs where a variable of that number does.
use Rattle.std.proofs.Common.{◌≡◌, ◌∙◌, ◌==◌, inl, inr, ℕ, true, false, true≢false, sym}
use Rattle.std.specs.List.{list_any}
use Rattle.am_term.specs.declared.id.SortId.{SortId}
use Rattle.am_term.specs.declared.term.Term.{Term}
use Rattle.am_term.specs.Induct.{term_induct}
use Rattle.am_term.specs.Variables.{occurs, occurs-Var, occurs-In, occurs-App}
use Rattle.am_term.proofs.Tests.{or_cases, or_left, or_right, and_left, and_both}
use Rattle.am_unify.specs.Occurrence.{number_occurs, number_occurs-Var, number_occurs-In, number_occurs-App}
use Rattle.am_unify.proofs.Standing.{number_same}

never : {A : Type 0} → false ≡ true → A
never e = absurd (true≢false (sym e))

pub number-occurs : (n : ℕ) (s : SortId) (t : Term) → occurs n s t ≡ true → number_occurs n t ≡ true
number-occurs n s = term_induct
    (λ t. occurs n s t ≡ true → number_occurs n t ≡ true)
    (λ ts. list_any (occurs n s) ts ≡ true → list_any (number_occurs n) ts ≡ true)
    (λ m r e. number_occurs-Var n m r ∙ and_left (n == m) (s.0 == r.0) (sym (occurs-Var n s m r) ∙ e))
    (λ k e. never (sym (occurs-In n s k) ∙ e))
    (λ f args h e. number_occurs-App n f args ∙ h (sym (occurs-App n s f args) ∙ e))
    (λ e. never e)
    (λ t ts h k e. elim (or_cases (occurs n s t) (list_any (occurs n s) ts) e) [
      | inl d ↦ or_left (number_occurs n t) (list_any (number_occurs n) ts) (h d)
      | inr d ↦ or_right (number_occurs n t) (list_any (number_occurs n) ts) (k d)
    ])

pub variable-occurs : (n : ℕ) (t : Term) → number_occurs n t ≡ true → (s : SortId) × (occurs n s t ≡ true)
variable-occurs n = term_induct
    (λ t. number_occurs n t ≡ true → (s : SortId) × (occurs n s t ≡ true))
    (λ ts. list_any (number_occurs n) ts ≡ true → (s : SortId) × (list_any (occurs n s) ts ≡ true))
    (λ m r e. (r, occurs-Var n r m r ∙ and_both (n == m) (r.0 == r.0) (sym (number_occurs-Var n m r) ∙ e) (number_same r.0)))
    (λ k e. never (sym (number_occurs-In n k) ∙ e))
    (λ f args h e. let p = h (sym (number_occurs-App n f args) ∙ e) in (p.0, occurs-App n p.0 f args ∙ p.1))
    (λ e. never e)
    (λ t ts h k e. elim (or_cases (number_occurs n t) (list_any (number_occurs n) ts) e) [
      | inl d ↦ let p = h d in (p.0, or_left (occurs n p.0 t) (list_any (occurs n p.0) ts) p.1)
      | inr d ↦ let p = k d in (p.0, or_right (occurs n p.0 t) (list_any (occurs n p.0) ts) p.1)
    ])
