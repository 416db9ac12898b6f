-- The order is transitive and irreflexive, and a term is greater than its proper parts.
use Rattle.std.specs.List.{list_any, sum_by}
use Rattle.std.proofs.Common.{◌≡◌, ◌+◌, ◌<◌, ◌&&◌, ◌||◌, ◌∙◌, ℕ, zero, suc, Bool, true, false, List, [], ◌∷◌, refl, sym, ap, subst, arith, inl, inr}
use Rattle.std.proofs.lemmas.List.Sums.{sum_by-cons}
use Rattle.am_term.specs.declared.signature.Signature.{Signature}
use Rattle.am_term.specs.declared.term.Term.{Term}
use Rattle.am_term.specs.declared.term.Term.TheViews.{out-Term}
use Rattle.am_term.specs.Place.{args_of}
use Rattle.am_term.specs.Same.{same_term}
use Rattle.am_term.proofs.Tests.{and_left, and_right, and_both, or_cases, or_left, or_right, or_false, never_both, fails}
use Rattle.am_term.proofs.Alike.{same_term-sound}
use Rattle.am_order.specs.Precedence.{head_above, same_head}
use Rattle.am_order.proofs.Heads.{head_above-irreflexive, head_above-trans, same_head-above, same_head-below, same_head-trans}
use Rattle.am_term.specs.Weight.{nodes}
use Rattle.am_order.proofs.Nodes.{nodes-is, any_within, all_within}
use Rattle.std.specs.Prelude.{if◌then◌else◌}
use Rattle.am_order.proofs.Cases.{greater-three, greater_cases, greater-reached, greater-head, greater-arguments, reaches_cases, reaches-same, reaches-greater}
use Rattle.am_order.specs.Parts.{is_part, inner_variable}
use Rattle.am_order.specs.Order.{greater}
use Rattle.am_order.specs.Cases.{reaches, some_reaches, exceeds_all, first_greater, by_part, by_head, by_arguments}
use Rattle.am_order.proofs.Unfold.{is_part-is, lex_greater, greater-is}

module _ (sig : Signature) where
  abbrev Goes : Term → Term → Term → Type 0
  Goes s t u = greater sig s t ≡ true → greater sig t u ≡ true → greater sig s u ≡ true

  -- the order is transitive on small terms
  abbrev Below : ℕ → Type 0
  Below n = (a b c : Term) → nodes a + nodes b + nodes c < n → Goes a b c

  module _ (n : ℕ) (ih : Below n) where
    some-step : (as_ : List Term) (t u : Term) → sum_by nodes as_ + nodes t + nodes u < n → some_reaches sig as_ t ≡ true → greater sig t u ≡ true → some_reaches sig as_ u ≡ true
    some-step as_ t u l r g = any_within (λ a. reaches sig a t) (λ a. reaches sig a u) as_
        (λ a k e. reaches-greater sig a u (reaches_cases sig a t e (λ i. subst (λ x. greater sig x u ≡ true) (sym i) g) (λ h. ih a t u (omega arith) h g))) r

    exceeds-some : (s : Term) (bs : List Term) (u : Term) → nodes s + sum_by nodes bs + nodes u < n → exceeds_all sig s bs ≡ true → some_reaches sig bs u ≡ true → greater sig s u ≡ true
    exceeds-some s [] u l e r = absurd cc
    exceeds-some s (b ∷ bs) u l e r =
        let g : greater sig s b ≡ true = and_left (greater sig s b) (exceeds_all sig s bs) e in
        elim (or_cases (reaches sig b u) (some_reaches sig bs u) r) [
          | inl h ↦ reaches_cases sig b u h (λ i. subst (λ x. greater sig s x ≡ true) i g) (λ j. ih s b u (omega (arith, sum_by-cons nodes b bs)) g j)
          | inr h ↦ exceeds-some s bs u (omega (arith, sum_by-cons nodes b bs)) (and_right (greater sig s b) (exceeds_all sig s bs) e) h
        ]

    exceeds-step : (s t : Term) (us : List Term) → nodes s + nodes t + sum_by nodes us < n → greater sig s t ≡ true → exceeds_all sig t us ≡ true → exceeds_all sig s us ≡ true
    exceeds-step s t us l g e = all_within (greater sig t) (greater sig s) us (λ u k h. ih s t u (omega arith) g h) e

    first-step : (as_ bs cs : List Term) → sum_by nodes as_ + sum_by nodes bs + sum_by nodes cs < n → lex_greater sig as_ bs ≡ true → lex_greater sig bs cs ≡ true → lex_greater sig as_ cs ≡ true
    first-step [] bs cs l e d = absurd cc
    first-step (a ∷ as_) [] cs l e d = absurd cc
    first-step (a ∷ as_) (b ∷ bs) [] l e d = absurd cc
    first-step (a ∷ as_) (b ∷ bs) (c ∷ cs) l e d =
        elim (or_cases (greater sig a b) (same_term a b && lex_greater sig as_ bs) e) [
          | inl g ↦ or_left (greater sig a c) (same_term a c && lex_greater sig as_ cs)
              (elim (or_cases (greater sig b c) (same_term b c && lex_greater sig bs cs) d) [
                | inl h ↦ ih a b c (omega (arith, sum_by-cons nodes a as_, sum_by-cons nodes b bs, sum_by-cons nodes c cs)) g h
                | inr q ↦ subst (λ x. greater sig a x ≡ true) (same_term-sound b c (and_left (same_term b c) (lex_greater sig bs cs) q)) g
              ])
          | inr p ↦
              let i : a ≡ b = same_term-sound a b (and_left (same_term a b) (lex_greater sig as_ bs) p) in
              elim (or_cases (greater sig b c) (same_term b c && lex_greater sig bs cs) d) [
                | inl h ↦ or_left (greater sig a c) (same_term a c && lex_greater sig as_ cs) (subst (λ x. greater sig x c ≡ true) (sym i) h)
                | inr q ↦ or_right (greater sig a c) (same_term a c && lex_greater sig as_ cs)
                    (and_both (same_term a c) (lex_greater sig as_ cs)
                    (subst (λ x. same_term x c ≡ true) (sym i) (and_left (same_term b c) (lex_greater sig bs cs) q))
                    (first-step as_ bs cs (omega (arith, sum_by-cons nodes a as_, sum_by-cons nodes b bs, sum_by-cons nodes c cs))
                    (and_right (same_term a b) (lex_greater sig as_ bs) p)
                    (and_right (same_term b c) (lex_greater sig bs cs) q)))
              ]
        ]

    step : Below (suc n)
    step s t u l g h = greater_cases sig s t g
        (λ r. greater-reached sig s u (some-step (args_of s) t u (omega (arith, nodes-is s)) r h))
        (λ a e. greater_cases sig t u h
        (λ r. exceeds-some s (args_of t) u (omega (arith, nodes-is t)) e r)
        (λ b d. greater-head sig s u (head_above-trans sig (out-Term s) (out-Term t) (out-Term u) a b) (exceeds-step s t (args_of u) (omega (arith, nodes-is u)) g d))
        (λ b d f. greater-head sig s u (sym (same_head-below sig (out-Term t) (out-Term u) (out-Term s) b) ∙ a) (exceeds-step s t (args_of u) (omega (arith, nodes-is u)) g d)))
        (λ a e f. greater_cases sig t u h
        (λ r. exceeds-some s (args_of t) u (omega (arith, nodes-is t)) e r)
        (λ b d. greater-head sig s u (same_head-above sig (out-Term s) (out-Term t) (out-Term u) a ∙ b) (exceeds-step s t (args_of u) (omega (arith, nodes-is u)) g d))
        (λ b d k. greater-arguments sig s u (same_head-trans (out-Term s) (out-Term t) (out-Term u) a b) (exceeds-step s t (args_of u) (omega (arith, nodes-is u)) g d)
        (first-step (args_of s) (args_of t) (args_of u) (omega (arith, nodes-is s, nodes-is t, nodes-is u)) f k)))

  trans-to : (n : ℕ) → Below n
  trans-to zero s t u l = absurd (omega arith)
  trans-to (suc n) s t u l = step n (trans-to n) s t u l

  pub greater-trans : (s t u : Term) → greater sig s t ≡ true → greater sig t u ≡ true → greater sig s u ≡ true
  greater-trans s t u = trans-to (suc (nodes s + nodes t + nodes u)) s t u (omega arith)

  pub reaches-trans : (a t u : Term) → reaches sig a t ≡ true → greater sig t u ≡ true → greater sig a u ≡ true
  reaches-trans a t u r g = reaches_cases sig a t r (λ i. subst (λ x. greater sig x u ≡ true) (sym i) g) (λ h. greater-trans a t u h g)

  -- a term is greater than each of its arguments

  exceeds-reached : (s : Term) (ts : List Term) → ((t : Term) → some_reaches sig ts t ≡ true → greater sig s t ≡ true) → exceeds_all sig s ts ≡ true
  exceeds-reached s [] h = refl
  exceeds-reached s (t ∷ ts) h =
      and_both (greater sig s t) (exceeds_all sig s ts)
      (h t (or_left (reaches sig t t) (some_reaches sig ts t) (reaches-same sig t)))
      (exceeds-reached s ts (λ u e. h u (or_right (reaches sig t u) (some_reaches sig ts u) e)))

  pub exceeds-args : (s : Term) → exceeds_all sig s (args_of s) ≡ true
  exceeds-args s = exceeds-reached s (args_of s) (greater-reached sig s)

  -- no term is greater than itself

  module _ (n : ℕ) (ih : (a : Term) → nodes a < n → greater sig a a ≡ true → ⊥) where
    no-cycle : (s : Term) (as_ : List Term) → sum_by nodes as_ < nodes s → sum_by nodes as_ < n → exceeds_all sig s as_ ≡ true → some_reaches sig as_ s ≡ true → ⊥
    no-cycle s [] l k e r = absurd cc
    no-cycle s (a ∷ as_) l k e r = elim (or_cases (reaches sig a s) (some_reaches sig as_ s) r) [
      | inl h ↦ reaches_cases sig a s h
          (λ i. let j : nodes a ≡ nodes s = ap nodes i in omega (arith, sum_by-cons nodes a as_))
          (λ g. ih a (omega (arith, sum_by-cons nodes a as_)) (greater-trans a s a g (and_left (greater sig s a) (exceeds_all sig s as_) e)))
      | inr h ↦ no-cycle s as_ (omega (arith, sum_by-cons nodes a as_)) (omega (arith, sum_by-cons nodes a as_)) (and_right (greater sig s a) (exceeds_all sig s as_) e) h
    ]

    no-first : (as_ : List Term) → sum_by nodes as_ < n → lex_greater sig as_ as_ ≡ true → ⊥
    no-first [] k f = absurd cc
    no-first (a ∷ as_) k f = elim (or_cases (greater sig a a) (same_term a a && lex_greater sig as_ as_) f) [
      | inl g ↦ ih a (omega (arith, sum_by-cons nodes a as_)) g
      | inr p ↦ no-first as_ (omega (arith, sum_by-cons nodes a as_)) (and_right (same_term a a) (lex_greater sig as_ as_) p)
    ]

    none-step : (s : Term) → nodes s < suc n → greater sig s s ≡ true → ⊥
    none-step s l g = greater_cases sig s s g
        (λ r. no-cycle s (args_of s) (omega (arith, nodes-is s)) (omega (arith, nodes-is s)) (exceeds-args s) r)
        (λ a e. never_both (head_above sig (out-Term s) (out-Term s)) a (head_above-irreflexive sig (out-Term s)))
        (λ a e f. no-first (args_of s) (omega (arith, nodes-is s)) f)

  none-to : (n : ℕ) (s : Term) → nodes s < n → greater sig s s ≡ true → ⊥
  none-to zero s l g = omega arith
  none-to (suc n) s l g = none-step n (none-to n) s l g

  pub never-greater : (s : Term) → greater sig s s ≡ true → ⊥
  never-greater s = none-to (suc (nodes s)) s (omega arith)

  pub greater-irreflexive : (s : Term) → greater sig s s ≡ false
  greater-irreflexive s = fails (greater sig s s) (never-greater s)

  -- of two terms one at most is greater
  pub greater-asymmetric : (s t : Term) → greater sig s t ≡ true → greater sig t s ≡ false
  greater-asymmetric s t g = fails (greater sig t s) (λ h. never-greater s (greater-trans s t s g h))

  -- a term is greater than each of its proper parts

  parts-to : (n : ℕ) (s t : Term) → nodes s < n → is_part t s ≡ true → reaches sig s t ≡ true
  parts-to zero s t l p = absurd (omega arith)
  parts-to (suc n) s t l p = elim (or_cases (same_term t s) (list_any (is_part t) (args_of s)) (sym (is_part-is t s) ∙ p)) [
    | inl i ↦ subst (λ x. reaches sig s x ≡ true) (sym (same_term-sound t s i)) (reaches-same sig s)
    | inr q ↦ reaches-greater sig s t (greater-reached sig s t
        (any_within (is_part t) (λ a. reaches sig a t) (args_of s) (λ a k e. parts-to n a t (omega (arith, nodes-is s)) e) q))
  ]

  pub greater-part : (s t : Term) → is_part t s ≡ true → (t ≡ s → ⊥) → greater sig s t ≡ true
  greater-part s t p d = reaches_cases sig s t (parts-to (suc (nodes s)) s t (omega arith) p) (λ i. absurd (d (sym i))) (λ g. g)

  -- at the first place where the arguments differ, that of the greater term is greater

  same-first : (a u : Term) (as_ us : List Term) → (b : Bool) → same_term a u ≡ b → lex_greater sig as_ us ≡ first_greater sig as_ us →
      (greater sig a u || (b && lex_greater sig as_ us)) ≡ (if b then first_greater sig as_ us else greater sig a u)
  same-first a u as_ us true e h =
      let i : a ≡ u = same_term-sound a u e in
      ap (λ g. g || lex_greater sig as_ us) (subst (λ x. greater sig a x ≡ false) i (greater-irreflexive a)) ∙ h
  same-first a u as_ us false e h = or_false (greater sig a u)

  pub lex-is : (as_ us : List Term) → lex_greater sig as_ us ≡ first_greater sig as_ us
  lex-is [] us = refl
  lex-is (a ∷ as_) [] = refl
  lex-is (a ∷ as_) (u ∷ us) = same-first a u as_ us (same_term a u) refl (lex-is as_ us)

  pub greater-ways : (s t : Term) → greater sig s t ≡ (by_part sig s t || by_head sig s t || by_arguments sig s t)
  greater-ways s t =
      greater-three sig s t
      ∙ ap (λ b. by_part sig s t || by_head sig s t || (same_head (out-Term s) (out-Term t) && exceeds_all sig s (args_of t) && b)) (lex-is (args_of s) (args_of t))

  pub greater-rule : (s t : Term) → greater sig s t ≡ (inner_variable t s || by_part sig s t || by_head sig s t || by_arguments sig s t)
  greater-rule s t =
      greater-is sig s t
      ∙ ap (λ b. inner_variable t s || by_part sig s t || by_head sig s t || (same_head (out-Term s) (out-Term t) && exceeds_all sig s (args_of t) && b)) (lex-is (args_of s) (args_of t))
