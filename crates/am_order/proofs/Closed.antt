-- The order is closed under substitutions and contexts.
use Rattle.std.specs.List.{sum_by}
use Rattle.std.proofs.Common.{◌≡◌, ◌==◌, ◌+◌, ◌<◌, ◌&&◌, ◌∙◌, ◌++◌, ℕ, zero, suc, true, false, List, [], ◌∷◌, map, refl, sym, ap, subst, arith, inl, inr}
use Rattle.std.proofs.lemmas.List.Folds.{list_all-map}
use Rattle.std.proofs.lemmas.List.Sums.{sum_by-cons}
use Rattle.std.proofs.lemmas.Bool.Decides.{nat_tests}
use Rattle.am_term.specs.declared.id.SymId.{SymId}
use Rattle.am_term.specs.declared.signature.Signature.{Signature}
use Rattle.am_term.specs.declared.term.Term.{Term}
use Rattle.am_term.specs.declared.term.Term.TheOpen.{Term-F}
use Rattle.am_term.specs.declared.term.Term.TheViews.{out-Term, roll-Term, roll-out-Term}
use Rattle.am_term.specs.declared.term.Term.TheVariants.{App, outs-In, outs-App, rolls-In, rolls-App}
use Rattle.am_term.specs.Place.{args_of, args_of-App}
use Rattle.am_term.specs.Same.{same_term}
use Rattle.am_term.specs.Variables.{is_variable_at}
use Rattle.am_term.specs.Instance.{instance, instance-In, instance-App}
use Rattle.am_term.proofs.Tests.{and_left, and_right, and_both, or_cases, or_left, or_right, bool_cases}
use Rattle.am_term.proofs.Alike.{same_term-refl, same_term-sound}
use Rattle.am_order.specs.Precedence.{head_above, same_head}
use Rattle.am_order.specs.Closure.{IsSubstitution, Frame, placed}
use Rattle.am_term.specs.Weight.{nodes}
use Rattle.am_order.proofs.Nodes.{nodes-is, any_within, all_within}
use Rattle.am_order.proofs.Cases.{greater_cases, greater-reached, greater-head, greater-arguments}
use Rattle.am_order.proofs.Trans.{greater-trans, exceeds-args}
use Rattle.am_order.specs.Parts.{arguments_of_node}
use Rattle.am_order.proofs.Ties.{args_of-node}
use Rattle.am_order.specs.Order.{greater}
use Rattle.am_order.specs.Cases.{reaches, some_reaches, exceeds_all}
use Rattle.am_order.proofs.Unfold.{list_any-map, lex_greater}

-- a variable has no arguments, and heads that compare are not those of variables

variable-bare : (x : Term-F Term) → is_variable_at x ≡ true → arguments_of_node x ≡ []
variable-bare (Term-F.Var n s) e = refl
variable-bare (Term-F.In k) e = refl
variable-bare (Term-F.App f ts) e = absurd cc

above-right : (sig : Signature) (x y : Term-F Term) → head_above sig x y ≡ true → is_variable_at y ≡ false
above-right sig (Term-F.Var n s) y e = absurd cc
above-right sig (Term-F.In k) (Term-F.Var n s) e = absurd cc
above-right sig (Term-F.In k) (Term-F.In j) e = refl
above-right sig (Term-F.In k) (Term-F.App g us) e = refl
above-right sig (Term-F.App f ts) (Term-F.Var n s) e = absurd cc
above-right sig (Term-F.App f ts) (Term-F.In j) e = refl
above-right sig (Term-F.App f ts) (Term-F.App g us) e = refl

same-left : (x y : Term-F Term) → same_head x y ≡ true → is_variable_at x ≡ false
same-left (Term-F.Var n s) y e = absurd cc
same-left (Term-F.In k) y e = refl
same-left (Term-F.App f ts) y e = refl

same-right : (x y : Term-F Term) → same_head x y ≡ true → is_variable_at y ≡ false
same-right (Term-F.Var n s) y e = absurd cc
same-right (Term-F.In k) (Term-F.Var n s) e = absurd cc
same-right (Term-F.In k) (Term-F.In j) e = refl
same-right (Term-F.In k) (Term-F.App g us) e = refl
same-right (Term-F.App f ts) (Term-F.Var n s) e = absurd cc
same-right (Term-F.App f ts) (Term-F.In j) e = refl
same-right (Term-F.App f ts) (Term-F.App g us) e = refl

module _ (sig : Signature) (θ : Term → Term) (is : IsSubstitution θ) where
  input-kept : (k : ℕ) → out-Term (θ (roll-Term (Term-F.In k))) ≡ Term-F.In k
  input-kept k = rw (rolls-In, is.inputs) (outs-In k)

  symbol-kept : (f : SymId) (ts : List Term) → out-Term (θ (roll-Term (Term-F.App f ts))) ≡ Term-F.App f (map θ ts)
  symbol-kept f ts = rw (rolls-App, is.symbols) (outs-App f (map θ ts))

  rolled-args : (x : Term-F Term) → is_variable_at x ≡ false → args_of (θ (roll-Term x)) ≡ map θ (arguments_of_node x)
  rolled-args (Term-F.Var n s) e = absurd cc
  rolled-args (Term-F.In k) e = args_of-node (θ (roll-Term (Term-F.In k))) ∙ ap (λ (y : Term-F Term). arguments_of_node y) (input-kept k)
  rolled-args (Term-F.App f ts) e = args_of-node (θ (roll-Term (Term-F.App f ts))) ∙ ap (λ (y : Term-F Term). arguments_of_node y) (symbol-kept f ts)

  args-kept : (t : Term) → is_variable_at (out-Term t) ≡ false → args_of (θ t) ≡ map θ (args_of t)
  args-kept t e = ap (λ u. args_of (θ u)) (sym (roll-out-Term t)) ∙ rolled-args (out-Term t) e ∙ ap (map θ) (sym (args_of-node t))

  rolled-above : (x y : Term-F Term) → head_above sig x y ≡ true → head_above sig (out-Term (θ (roll-Term x))) (out-Term (θ (roll-Term y))) ≡ true
  rolled-above (Term-F.Var n s) y e = absurd cc
  rolled-above (Term-F.In k) (Term-F.Var n s) e = absurd cc
  rolled-above (Term-F.In k) (Term-F.In j) e = rw (input-kept k, input-kept j) e
  rolled-above (Term-F.In k) (Term-F.App g us) e = absurd cc
  rolled-above (Term-F.App f ts) (Term-F.Var n s) e = absurd cc
  rolled-above (Term-F.App f ts) (Term-F.In j) e = rw (symbol-kept f ts, input-kept j) e
  rolled-above (Term-F.App f ts) (Term-F.App g us) e = rw (symbol-kept f ts, symbol-kept g us) e

  above-kept : (s t : Term) → head_above sig (out-Term s) (out-Term t) ≡ true → head_above sig (out-Term (θ s)) (out-Term (θ t)) ≡ true
  above-kept s t e =
      ap (λ u. head_above sig (out-Term (θ u)) (out-Term (θ t))) (sym (roll-out-Term s))
      ∙ ap (λ u. head_above sig (out-Term (θ (roll-Term (out-Term s)))) (out-Term (θ u))) (sym (roll-out-Term t))
      ∙ rolled-above (out-Term s) (out-Term t) e

  rolled-same : (x y : Term-F Term) → same_head x y ≡ true → same_head (out-Term (θ (roll-Term x))) (out-Term (θ (roll-Term y))) ≡ true
  rolled-same (Term-F.Var n s) y e = absurd cc
  rolled-same (Term-F.In k) (Term-F.Var n s) e = absurd cc
  rolled-same (Term-F.In k) (Term-F.In j) e = rw (input-kept k, input-kept j) e
  rolled-same (Term-F.In k) (Term-F.App g us) e = absurd cc
  rolled-same (Term-F.App f ts) (Term-F.Var n s) e = absurd cc
  rolled-same (Term-F.App f ts) (Term-F.In j) e = absurd cc
  rolled-same (Term-F.App f ts) (Term-F.App g us) e = rw (symbol-kept f ts, symbol-kept g us) e

  same-kept : (s t : Term) → same_head (out-Term s) (out-Term t) ≡ true → same_head (out-Term (θ s)) (out-Term (θ t)) ≡ true
  same-kept s t e =
      ap (λ u. same_head (out-Term (θ u)) (out-Term (θ t))) (sym (roll-out-Term s))
      ∙ ap (λ u. same_head (out-Term (θ (roll-Term (out-Term s)))) (out-Term (θ u))) (sym (roll-out-Term t))
      ∙ rolled-same (out-Term s) (out-Term t) e

  abbrev Kept : Term → Term → Type 0
  Kept s t = greater sig s t ≡ true → greater sig (θ s) (θ t) ≡ true

  same_term-kept : (a t : Term) → same_term a t ≡ true → same_term (θ a) (θ t) ≡ true
  same_term-kept a t e = subst (λ u. same_term (θ a) (θ u) ≡ true) (same_term-sound a t e) (same_term-refl (θ a))

  module _ (n : ℕ) (ih : (a b : Term) → nodes a + nodes b < n → Kept a b) where
    some-kept : (as_ : List Term) (t : Term) → sum_by nodes as_ + nodes t < n → some_reaches sig as_ t ≡ true → some_reaches sig (map θ as_) (θ t) ≡ true
    some-kept as_ t l r =
        list_any-map (λ a. reaches sig a (θ t)) θ as_
        ∙ any_within (λ a. reaches sig a t) (λ a. reaches sig (θ a) (θ t)) as_
        (λ a k e. elim (or_cases (same_term a t) (greater sig a t) e) [
          | inl i ↦ or_left (same_term (θ a) (θ t)) (greater sig (θ a) (θ t)) (same_term-kept a t i)
          | inr g ↦ or_right (same_term (θ a) (θ t)) (greater sig (θ a) (θ t)) (ih a t (omega arith) g)
        ]) r

    exceeds-kept : (s : Term) (ts : List Term) → nodes s + sum_by nodes ts < n → exceeds_all sig s ts ≡ true → exceeds_all sig (θ s) (map θ ts) ≡ true
    exceeds-kept s ts l e = list_all-map (greater sig (θ s)) θ ts ∙ all_within (greater sig s) (λ t. greater sig (θ s) (θ t)) ts (λ t k g. ih s t (omega arith) g) e

    first-kept : (as_ us : List Term) → sum_by nodes as_ + sum_by nodes us < n → lex_greater sig as_ us ≡ true → lex_greater sig (map θ as_) (map θ us) ≡ true
    first-kept [] us l f = absurd cc
    first-kept (a ∷ as_) [] l f = absurd cc
    first-kept (a ∷ as_) (u ∷ us) l f = elim (or_cases (greater sig a u) (same_term a u && lex_greater sig as_ us) f) [
      | inl g ↦ or_left (greater sig (θ a) (θ u)) (same_term (θ a) (θ u) && lex_greater sig (map θ as_) (map θ us)) (ih a u (omega (arith, sum_by-cons nodes a as_, sum_by-cons nodes u us)) g)
      | inr p ↦ or_right (greater sig (θ a) (θ u)) (same_term (θ a) (θ u) && lex_greater sig (map θ as_) (map θ us))
          (and_both (same_term (θ a) (θ u)) (lex_greater sig (map θ as_) (map θ us))
          (same_term-kept a u (and_left (same_term a u) (lex_greater sig as_ us) p))
          (first-kept as_ us (omega (arith, sum_by-cons nodes a as_, sum_by-cons nodes u us)) (and_right (same_term a u) (lex_greater sig as_ us) p)))
    ]

    kept-step : (s t : Term) → nodes s + nodes t < suc n → Kept s t
    kept-step s t l g = greater_cases sig s t g
        (λ r. elim (bool_cases (is_variable_at (out-Term s))) [
          | inl v ↦ let bare : some_reaches sig [] t ≡ true = subst (λ as_. some_reaches sig as_ t ≡ true) (args_of-node s ∙ variable-bare (out-Term s) v) r in absurd cc
          | inr v ↦ greater-reached sig (θ s) (θ t)
              (subst (λ as_. some_reaches sig as_ (θ t) ≡ true) (sym (args-kept s v)) (some-kept (args_of s) t (omega (arith, nodes-is s)) r))
        ])
        (λ h e. greater-head sig (θ s) (θ t) (above-kept s t h)
        (subst (λ us. exceeds_all sig (θ s) us ≡ true) (sym (args-kept t (above-right sig (out-Term s) (out-Term t) h))) (exceeds-kept s (args_of t) (omega (arith, nodes-is t)) e)))
        (λ h e f.
        let i : args_of (θ s) ≡ map θ (args_of s) = args-kept s (same-left (out-Term s) (out-Term t) h) in
        let j : args_of (θ t) ≡ map θ (args_of t) = args-kept t (same-right (out-Term s) (out-Term t) h) in
        greater-arguments sig (θ s) (θ t) (same-kept s t h)
        (subst (λ us. exceeds_all sig (θ s) us ≡ true) (sym j) (exceeds-kept s (args_of t) (omega (arith, nodes-is t)) e))
        (rw (i, j) (first-kept (args_of s) (args_of t) (omega (arith, nodes-is s, nodes-is t)) f)))

  kept-to : (n : ℕ) (s t : Term) → nodes s + nodes t < n → Kept s t
  kept-to zero s t l = absurd (omega arith)
  kept-to (suc n) s t l = kept-step n (kept-to n) s t l

  pub greater-substitution : (s t : Term) → greater sig s t ≡ true → greater sig (θ s) (θ t) ≡ true
  greater-substitution s t = kept-to (suc (nodes s + nodes t)) s t (omega arith)

pub instance-substitutes : (with : List Term) → IsSubstitution (instance with)
instance-substitutes with = record { inputs = instance-In with; symbols = instance-App with }

pub greater-instance : (sig : Signature) (with : List Term) (s t : Term) → greater sig s t ≡ true → greater sig (instance with s) (instance with t) ≡ true
greater-instance sig with s t = greater-substitution sig (instance with) (instance-substitutes with) s t

module _ (sig : Signature) (s t : Term) (g : greater sig s t ≡ true) where
  first-context : (before behind : List Term) → lex_greater sig (before ++ s ∷ behind) (before ++ t ∷ behind) ≡ true
  first-context [] behind = or_left (greater sig s t) (same_term s t && lex_greater sig behind behind) g
  first-context (a ∷ before) behind =
      or_right (greater sig a a) (same_term a a && lex_greater sig (before ++ s ∷ behind) (before ++ t ∷ behind))
      (and_both (same_term a a) (lex_greater sig (before ++ s ∷ behind) (before ++ t ∷ behind)) (same_term-refl a) (first-context before behind))

  exceeds-context : (w : Term) (before behind : List Term) → exceeds_all sig w (before ++ s ∷ behind) ≡ true → exceeds_all sig w (before ++ t ∷ behind) ≡ true
  exceeds-context w [] behind e =
      and_both (greater sig w t) (exceeds_all sig w behind)
      (greater-trans sig w s t (and_left (greater sig w s) (exceeds_all sig w behind) e) g)
      (and_right (greater sig w s) (exceeds_all sig w behind) e)
  exceeds-context w (a ∷ before) behind e =
      and_both (greater sig w a) (exceeds_all sig w (before ++ t ∷ behind))
      (and_left (greater sig w a) (exceeds_all sig w (before ++ s ∷ behind)) e)
      (exceeds-context w before behind (and_right (greater sig w a) (exceeds_all sig w (before ++ s ∷ behind)) e))

  number-same : (n : ℕ) → (n == n) ≡ true
  number-same n = grind (arith, nat_tests)

  pub greater-argument : (f : SymId) (before behind : List Term) → greater sig (App f (before ++ s ∷ behind)) (App f (before ++ t ∷ behind)) ≡ true
  greater-argument f before behind =
      let w : Term = App f (before ++ s ∷ behind) in
      let v : Term = App f (before ++ t ∷ behind) in
      let i : args_of w ≡ before ++ s ∷ behind = args_of-App f (before ++ s ∷ behind) in
      let j : args_of v ≡ before ++ t ∷ behind = args_of-App f (before ++ t ∷ behind) in
      greater-arguments sig w v
      (rw (outs-App f (before ++ s ∷ behind), outs-App f (before ++ t ∷ behind)) (number-same f.0))
      (subst (λ us. exceeds_all sig w us ≡ true) (sym j) (exceeds-context w before behind (subst (λ us. exceeds_all sig w us ≡ true) i (exceeds-args sig w))))
      (subst (λ us. lex_greater sig (args_of w) us ≡ true) (sym j) (subst (λ us. lex_greater sig us (before ++ t ∷ behind) ≡ true) (sym i) (first-context before behind)))

pub greater-placed : (sig : Signature) (s t : Term) → greater sig s t ≡ true → (cs : List Frame) → greater sig (placed cs s) (placed cs t) ≡ true
greater-placed sig s t g [] = g
greater-placed sig s t g (c ∷ cs) = greater-argument sig (placed cs s) (placed cs t) (greater-placed sig s t g cs) c.head c.before c.behind
