-- Instances of terms: of instances, their size, and the variables that matter.
use Rattle.std.proofs.Common.{◌≡◌, ◌==◌, ◌∙◌, inl, inr, ◌<◌, ◌≤◌, ℕ, true, refl, sym, ap, List, ◌∷◌, length, arith}
use Rattle.std.specs.List.{list_any, sum_by}
use Rattle.std.proofs.lemmas.Bool.Decides.{nat_tests}
use Rattle.std.proofs.lemmas.List.{get_or-map}
use Rattle.std.proofs.lemmas.List.Sums.{sum_by-cons}
use Rattle.am_term.specs.declared.id.SortId.{SortId}
use Rattle.am_term.specs.declared.term.Term.{Term}
use Rattle.am_term.specs.declared.term.Term.TheVariants.{Var, App}
use Rattle.am_term.specs.Induct.{term_induct, term_cases}
use Rattle.am_term.specs.Instance.{instance, instances, instance-Var, instance-In, instance-App}
use Rattle.am_term.specs.Span.{span, spans, spans-none, spans-more, span-Var, span-In, span-App}
use Rattle.am_term.specs.Variables.{occurs, occurs-Var, occurs-In, occurs-App}
use Rattle.am_term.specs.Weight.{nodes, nodes-Var, nodes-In, nodes-App}
use Rattle.am_term.proofs.Tests.{and_left, and_both, or_cases, or_left, or_right}

-- the instance of an instance is one instance
module _ (first second : List Term) where
  pub instance-instance : (t : Term) → span t ≤ length first → instance second (instance first t) ≡ instance (instances second first) t
  instance-instance = term_induct
      (λ t. span t ≤ length first → instance second (instance first t) ≡ instance (instances second first) t)
      (λ ts. spans ts ≤ length first → instances second (instances first ts) ≡ instances (instances second first) ts)
      (λ n s h. let l = rw span-Var at h in let k : n < length first = omega arith in rw (instance-Var first, instance-Var (instances second first)) (sym (get_or-map (instance second) first n (Var n s) (Var n s) k)))
      (λ k h. rw (instance-In first, instance-In second, instance-In (instances second first)) refl)
      (λ f args e h. let k : spans args ≤ length first = rw span-App at h in rw (instance-App first, instance-App second, instance-App (instances second first), e k) refl)
      (λ h. refl)
      (λ t ts e d h. let m = rw spans-more at h in let p : span t ≤ length first = omega arith in let q : spans ts ≤ length first = omega arith in rw (e p, d q) refl)

-- a term has a node at least
pub nodes-positive : (t : Term) → 1 ≤ nodes t
nodes-positive = term_cases (λ t. 1 ≤ nodes t)
    (λ n s. omega (arith, nodes-Var n s))
    (λ k. omega (arith, nodes-In k))
    (λ f args. omega (arith, nodes-App f args))

module _ (with : List Term) where
  -- an instance is no smaller
  pub nodes-instance : (t : Term) → nodes t ≤ nodes (instance with t)
  nodes-instance = term_induct
      (λ t. nodes t ≤ nodes (instance with t))
      (λ ts. sum_by nodes ts ≤ sum_by nodes (instances with ts))
      (λ n s. omega (arith, nodes-Var n s, nodes-positive (instance with (Var n s))))
      (λ k. rw instance-In (omega arith))
      (λ f args h. rw (instance-App, nodes-App f args, nodes-App f (instances with args)) (omega arith))
      (omega arith)
      (λ t ts h k. omega (arith, sum_by-cons nodes t ts, sum_by-cons nodes (instance with t) (instances with ts)))

-- variables that occur are within the span
pub occurs-span : (n : ℕ) (s : SortId) (t : Term) → occurs n s t ≡ true → n < span t
occurs-span n s = term_induct
    (λ t. occurs n s t ≡ true → n < span t)
    (λ ts. list_any (occurs n s) ts ≡ true → n < spans ts)
    (λ m r e. let a = and_left (n == m) (s.0 == r.0) (sym (occurs-Var n s m r) ∙ e) in rw span-Var (grind (arith, nat_tests)))
    (λ k e. let a = sym (occurs-In n s k) ∙ e in absurd cc)
    (λ f args h e. rw span-App (h (sym (occurs-App n s f args) ∙ e)))
    (λ e. absurd cc)
    (λ t ts h k e. elim (or_cases (occurs n s t) (list_any (occurs n s) ts) e) [
      | inl a ↦ let l = h a in omega (arith, spans-more t ts)
      | inr b ↦ let l = k b in omega (arith, spans-more t ts)
    ])

pub occurs-self : (n : ℕ) (s : SortId) → occurs n s (Var n s) ≡ true
occurs-self n s = occurs-Var n s n s ∙ and_both (n == n) (s.0 == s.0) (grind (arith, nat_tests)) (grind (arith, nat_tests))

-- the span is the least number above those of the variables that occur
pub span-least : (t : Term) (m : ℕ) → ((n : ℕ) (s : SortId) → occurs n s t ≡ true → n < m) → span t ≤ m
span-least = term_induct
    (λ t. (m : ℕ) → ((n : ℕ) (s : SortId) → occurs n s t ≡ true → n < m) → span t ≤ m)
    (λ ts. (m : ℕ) → ((n : ℕ) (s : SortId) → list_any (occurs n s) ts ≡ true → n < m) → spans ts ≤ m)
    (λ n s m h. let l = h n s (occurs-self n s) in omega (arith, span-Var n s))
    (λ k m h. omega (arith, span-In k))
    (λ f args e m h. rw span-App (e m (λ n s o. h n s (occurs-App n s f args ∙ o))))
    (λ m h. omega (arith, spans-none))
    (λ t ts e d m h.
    let a = e m (λ n s o. h n s (or_left (occurs n s t) (list_any (occurs n s) ts) o)) in
    let b = d m (λ n s o. h n s (or_right (occurs n s t) (list_any (occurs n s) ts) o)) in
    omega (arith, spans-more t ts))

-- lists that agree on the variables that occur give one instance
module _ (with other : List Term) where
  pub instance-agree : (t : Term) → ((n : ℕ) (s : SortId) → occurs n s t ≡ true → instance with (Var n s) ≡ instance other (Var n s)) → instance with t ≡ instance other t
  instance-agree = term_induct
      (λ t. ((n : ℕ) (s : SortId) → occurs n s t ≡ true → instance with (Var n s) ≡ instance other (Var n s)) → instance with t ≡ instance other t)
      (λ ts. ((n : ℕ) (s : SortId) → list_any (occurs n s) ts ≡ true → instance with (Var n s) ≡ instance other (Var n s)) → instances with ts ≡ instances other ts)
      (λ n s h. h n s (occurs-self n s))
      (λ k h. rw (instance-In with, instance-In other) refl)
      (λ f args e h. rw (instance-App with, instance-App other) (ap (App f) (e (λ n s o. h n s (occurs-App n s f args ∙ o)))))
      (λ h. refl)
      (λ t ts e d h.
      let a = e (λ n s o. h n s (or_left (occurs n s t) (list_any (occurs n s) ts) o)) in
      let b = d (λ n s o. h n s (or_right (occurs n s t) (list_any (occurs n s) ts) o)) in
      ap (λ x. x ∷ instances with ts) a ∙ ap (λ xs. instance other t ∷ xs) b)

pub ruleset laws_of_instances = (instance-instance, nodes-instance)

pub ruleset laws_of_span = (occurs-span, span-least)
