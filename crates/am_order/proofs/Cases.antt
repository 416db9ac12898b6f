-- Which of the four cases make a term greater: the first is one of the second.
use Rattle.std.specs.List.{list_any}
use Rattle.std.proofs.Common.{◌≡◌, ◌&&◌, ◌||◌, ◌∙◌, Bool, true, false, not, refl, sym, ap, subst, inl, inr}
use Rattle.am_term.specs.declared.signature.Signature.{Signature}
use Rattle.am_term.specs.declared.term.Term.{Term}
use Rattle.am_term.specs.declared.term.Term.TheViews.{out-Term}
use Rattle.am_term.specs.Place.{args_of}
use Rattle.am_term.specs.Same.{same_term}
use Rattle.am_term.specs.Variables.{is_variable}
use Rattle.am_term.proofs.Tests.{and_left, and_right, and_both, or_cases, or_left, or_right, bool_cases, never_both, true_not, not_false, fails}
use Rattle.am_term.proofs.Alike.{same_term-refl, same_term-sound}
use Rattle.am_order.specs.Precedence.{head_above, same_head}
use Rattle.am_order.proofs.Nodes.{any_within}
use Rattle.am_order.specs.Parts.{is_part, inner_variable}
use Rattle.am_order.specs.Order.{greater}
use Rattle.am_order.specs.Cases.{reaches, some_reaches, exceeds_all, by_part, by_head}
use Rattle.am_order.proofs.Unfold.{is_part-is, lex_greater, by_lex, greater-is}

pub differ-sym : (s t : Term) → same_term s t ≡ false → same_term t s ≡ false
differ-sym s t e = fails (same_term t s) (λ d. never_both (same_term s t) (subst (λ u. same_term s u ≡ true) (sym (same_term-sound t s d)) (same_term-refl s)) e)

first_of_four : (a b c d : Bool) → a ≡ true → (a || b || c || d) ≡ true
first_of_four true b c d e = refl
first_of_four false b c d e = absurd cc

-- what the second case makes greater needs no first one
absorbed : (a b c d : Bool) → (a ≡ true → b ≡ true) → (a || b || c || d) ≡ (b || c || d)
absorbed true true c d h = refl
absorbed true false c d h = absurd (let e : false ≡ true = h refl in cc)
absorbed false b c d h = refl

module _ (sig : Signature) where
  pub inner-greater : (s t : Term) → inner_variable t s ≡ true → greater sig s t ≡ true
  inner-greater s t e = greater-is sig s t ∙ first_of_four (inner_variable t s) (some_reaches sig (args_of s) t) (by_head sig s t) (by_lex sig s t) e

  -- an argument in which a variable occurs reaches it
  part-reached : (a t : Term) → is_variable t ≡ true → is_part t a ≡ true → reaches sig a t ≡ true
  part-reached a t v e = elim (bool_cases (same_term a t)) [
    | inl i ↦ or_left (same_term a t) (greater sig a t) i
    | inr i ↦ or_right (same_term a t) (greater sig a t) (inner-greater a t
        (and_both (is_variable t && is_part t a) (not (same_term t a))
        (and_both (is_variable t) (is_part t a) v e)
        (not_false (same_term t a) (differ-sym a t i))))
  ]

  inner-parts : (s t : Term) → inner_variable t s ≡ true → list_any (is_part t) (args_of s) ≡ true
  inner-parts s t e =
      let d : same_term t s ≡ false = true_not (same_term t s) (and_right (is_variable t && is_part t s) (not (same_term t s)) e) in
      let p : is_part t s ≡ true = and_right (is_variable t) (is_part t s) (and_left (is_variable t && is_part t s) (not (same_term t s)) e) in
      sym (ap (λ b. b || list_any (is_part t) (args_of s)) d) ∙ sym (is_part-is t s) ∙ p

  pub inner-reached : (s t : Term) → inner_variable t s ≡ true → some_reaches sig (args_of s) t ≡ true
  inner-reached s t e =
      let v : is_variable t ≡ true = and_left (is_variable t) (is_part t s) (and_left (is_variable t && is_part t s) (not (same_term t s)) e) in
      any_within (is_part t) (λ a. reaches sig a t) (args_of s) (λ a l p. part-reached a t v p) (inner-parts s t e)

  pub greater-three : (s t : Term) → greater sig s t ≡ (by_part sig s t || by_head sig s t || by_lex sig s t)
  greater-three s t = greater-is sig s t ∙ absorbed (inner_variable t s) (some_reaches sig (args_of s) t) (by_head sig s t) (by_lex sig s t) (inner-reached s t)

  -- each way to be greater

  pub greater-reached : (s t : Term) → some_reaches sig (args_of s) t ≡ true → greater sig s t ≡ true
  greater-reached s t e = greater-three s t ∙ or_left (by_part sig s t || by_head sig s t) (by_lex sig s t) (or_left (some_reaches sig (args_of s) t) (by_head sig s t) e)

  pub greater-head : (s t : Term) → head_above sig (out-Term s) (out-Term t) ≡ true → exceeds_all sig s (args_of t) ≡ true → greater sig s t ≡ true
  greater-head s t h e = greater-three s t ∙ or_left (by_part sig s t || by_head sig s t) (by_lex sig s t)
      (or_right (some_reaches sig (args_of s) t) (by_head sig s t) (and_both (head_above sig (out-Term s) (out-Term t)) (exceeds_all sig s (args_of t)) h e))

  pub greater-arguments : (s t : Term) → same_head (out-Term s) (out-Term t) ≡ true → exceeds_all sig s (args_of t) ≡ true → lex_greater sig (args_of s) (args_of t) ≡ true → greater sig s t ≡ true
  greater-arguments s t h e f = greater-three s t ∙ or_right (by_part sig s t || by_head sig s t) (by_lex sig s t)
      (and_both (same_head (out-Term s) (out-Term t) && exceeds_all sig s (args_of t)) (lex_greater sig (args_of s) (args_of t))
      (and_both (same_head (out-Term s) (out-Term t)) (exceeds_all sig s (args_of t)) h e) f)

  -- the ways in which a term that is greater got there
  pub greater_cases : {P : Type 0} (s t : Term) → greater sig s t ≡ true
      → (some_reaches sig (args_of s) t ≡ true → P)
      → (head_above sig (out-Term s) (out-Term t) ≡ true → exceeds_all sig s (args_of t) ≡ true → P)
      → (same_head (out-Term s) (out-Term t) ≡ true → exceeds_all sig s (args_of t) ≡ true → lex_greater sig (args_of s) (args_of t) ≡ true → P)
      → P
  greater_cases s t g one two three =
      elim (or_cases (by_part sig s t || by_head sig s t) (by_lex sig s t) (sym (greater-three s t) ∙ g)) [
        | inl r ↦ elim (or_cases (some_reaches sig (args_of s) t) (by_head sig s t) r) [
          | inl a ↦ one a
          | inr b ↦ two (and_left (head_above sig (out-Term s) (out-Term t)) (exceeds_all sig s (args_of t)) b) (and_right (head_above sig (out-Term s) (out-Term t)) (exceeds_all sig s (args_of t)) b)
        ]
        | inr c ↦
            let d : (same_head (out-Term s) (out-Term t) && exceeds_all sig s (args_of t)) ≡ true = and_left (same_head (out-Term s) (out-Term t) && exceeds_all sig s (args_of t)) (lex_greater sig (args_of s) (args_of t)) c in
            three (and_left (same_head (out-Term s) (out-Term t)) (exceeds_all sig s (args_of t)) d)
            (and_right (same_head (out-Term s) (out-Term t)) (exceeds_all sig s (args_of t)) d)
            (and_right (same_head (out-Term s) (out-Term t) && exceeds_all sig s (args_of t)) (lex_greater sig (args_of s) (args_of t)) c)
      ]

  -- one term is another, or greater
  pub reaches_cases : {P : Type 0} (a t : Term) → reaches sig a t ≡ true → (a ≡ t → P) → (greater sig a t ≡ true → P) → P
  reaches_cases a t r one two = elim (or_cases (same_term a t) (greater sig a t) r) [
    | inl e ↦ one (same_term-sound a t e)
    | inr g ↦ two g
  ]

  pub reaches-same : (t : Term) → reaches sig t t ≡ true
  reaches-same t = or_left (same_term t t) (greater sig t t) (same_term-refl t)

  pub reaches-greater : (a t : Term) → greater sig a t ≡ true → reaches sig a t ≡ true
  reaches-greater a t g = or_right (same_term a t) (greater sig a t) g
