-- Each variable of a lesser term occurs in the greater one.
use Rattle.std.proofs.Common.{◌≡◌, ◌∙◌, ◌==◌, ◌&&◌, ◌||◌, inl, inr, ℕ, true, refl, sym, ap, subst, List, [], ◌∷◌}
use Rattle.std.specs.List.{list_any}
use Rattle.am_term.specs.Induct.{term_induct}
use Rattle.am_term.specs.Place.{args_of-App}
use Rattle.am_term.specs.Same.{same_term}
use Rattle.am_term.specs.Variables.{occurs, occurs-Var, occurs-In, occurs-App}
use Rattle.am_term.specs.declared.id.SortId.{SortId}
use Rattle.am_term.specs.declared.id.SymId.{SymId}
use Rattle.am_term.specs.declared.signature.Signature.{Signature}
use Rattle.am_term.specs.declared.term.Term.{Term}
use Rattle.am_term.specs.declared.term.Term.TheVariants.{Var, App}
use Rattle.am_term.proofs.Alike.{same_term-sound}
use Rattle.am_term.proofs.Tests.{and_left, and_right, and_both, or_cases, or_left, or_right}
use Rattle.am_order.specs.Cases.{exceeds_all, some_reaches}
use Rattle.am_order.specs.Order.{greater}
use Rattle.am_order.proofs.Shapes.{greater-Var, greater-In-Var, greater-App-Var}
use Rattle.am_order.proofs.Trans.{exceeds-args, greater-trans}
use Rattle.am_rules.proofs.Standing.{never}
use Rattle.am_unify.proofs.Standing.{number_is, number_same}

module _ (sig : Signature) (n : ℕ) (r : SortId) where
  itself : occurs n r (Var n r) ≡ true
  itself = occurs-Var n r n r ∙ and_both (n == n) (r.0 == r.0) (number_same n) (number_same r.0)

  -- what is greater than a variable has it in it
  over : (s : Term) → greater sig s (Var n r) ≡ true → occurs n r s ≡ true
  over = term_induct
      (λ s. greater sig s (Var n r) ≡ true → occurs n r s ≡ true)
      (λ ss. some_reaches sig ss (Var n r) ≡ true → list_any (occurs n r) ss ≡ true)
      (λ m q e. never (sym (greater-Var sig m q (Var n r)) ∙ e))
      (λ k e. never (sym (greater-In-Var sig k n r) ∙ e))
      (λ f ss h e. occurs-App n r f ss ∙ h (sym (greater-App-Var sig f ss n r) ∙ e))
      (λ e. e)
      (λ s ss h k e. elim (or_cases (same_term s (Var n r) || greater sig s (Var n r)) (some_reaches sig ss (Var n r)) e) [
        | inl a ↦ or_left (occurs n r s) (list_any (occurs n r) ss) (elim (or_cases (same_term s (Var n r)) (greater sig s (Var n r)) a) [
          | inl b ↦ ap (occurs n r) (same_term-sound s (Var n r) b) ∙ itself
          | inr b ↦ h b
        ])
        | inr a ↦ or_right (occurs n r s) (list_any (occurs n r) ss) (k a)
      ])

  -- what is greater than a term is greater than each of its variables
  past : (t : Term) (s : Term) → greater sig s t ≡ true → occurs n r t ≡ true → greater sig s (Var n r) ≡ true
  past = term_induct
      (λ t. (s : Term) → greater sig s t ≡ true → occurs n r t ≡ true → greater sig s (Var n r) ≡ true)
      (λ ts. (s : Term) → exceeds_all sig s ts ≡ true → list_any (occurs n r) ts ≡ true → greater sig s (Var n r) ≡ true)
      (λ m q s g o.
      let test : (n == m && r.0 == q.0) ≡ true = sym (occurs-Var n r m q) ∙ o in
      let number : n ≡ m = number_is n m (and_left (n == m) (r.0 == q.0) test) in
      let sort : r ≡ q = ap (λ (i : ℕ). let x : SortId = record { 0 = i } in x) (number_is r.0 q.0 (and_right (n == m) (r.0 == q.0) test)) in
      ap (greater sig s) (ap (λ i. Var i r) number ∙ ap (Var m) sort) ∙ g)
      (λ k s g o. never (sym (occurs-In n r k) ∙ o))
      (λ f ts h s g o. h s (all-args f ts s g) (sym (occurs-App n r f ts) ∙ o))
      (λ s e o. never o)
      (λ t ts h k s e o. elim (or_cases (occurs n r t) (list_any (occurs n r) ts) o) [
        | inl a ↦ h s (and_left (greater sig s t) (exceeds_all sig s ts) e) a
        | inr a ↦ k s (and_right (greater sig s t) (exceeds_all sig s ts) e) a
      ])
    where
      all-args : (f : SymId) (ts : List Term) (s : Term) → greater sig s (App f ts) ≡ true → exceeds_all sig s ts ≡ true
      all-args f ts s g = carried ts (subst (λ us. exceeds_all sig (App f ts) us ≡ true) (args_of-App f ts) (exceeds-args sig (App f ts)))
        where
          carried : (us : List Term) → exceeds_all sig (App f ts) us ≡ true → exceeds_all sig s us ≡ true
          carried [] e = refl
          carried (u ∷ us) e = and_both (greater sig s u) (exceeds_all sig s us)
              (greater-trans sig s (App f ts) u g (and_left (greater sig (App f ts) u) (exceeds_all sig (App f ts) us) e))
              (carried us (and_right (greater sig (App f ts) u) (exceeds_all sig (App f ts) us) e))

  pub lesser : (s t : Term) → greater sig s t ≡ true → occurs n r t ≡ true → occurs n r s ≡ true
  lesser s t g o = over s (past t s g o)
