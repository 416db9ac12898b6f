-- The definitions by recursion over terms, as equations over whole terms.
use Rattle.std.specs.Prelude.{◌≡◌, ◌&&◌, ◌||◌, Bool, false, List, [], ◌∷◌, map}
use Rattle.std.specs.List.{list_any}
use Rattle.std.proofs.Common.{refl, ap, sym, ◌∙◌}
use Rattle.std.proofs.lemmas.List.Folds.{list_all-map}
use Rattle.am_term.specs.declared.signature.Signature.{Signature}
use Rattle.am_term.specs.declared.term.Term.{Term}
use Rattle.am_term.specs.declared.term.Term.TheOpen.{Term-F}
use Rattle.am_term.specs.declared.term.Term.TheViews.{out-Term, roll-Term, roll-out-Term, out-roll-Term}
use Rattle.am_term.specs.declared.term.Term.TheFolds.{map-Term, para-Term, para-roll-Term}
use Rattle.am_term.specs.Place.{args_of}
use Rattle.am_term.specs.Same.{same_term}
use Rattle.am_order.specs.Precedence.{head_above, same_head}
use Rattle.am_order.specs.Parts.{arguments_of_node, whole, part_step, is_part, inner_variable}
use Rattle.am_order.proofs.Ties.{args_of-node, args_of-roll}
use Rattle.am_order.specs.Order.{LeftArgument, RightArgument, first_left, compared, greater_step, greater}
use Rattle.am_order.specs.Cases.{exceeds_all, by_part, by_head}

module _ {A : Type 0} (h : Term → A) where
  firsts : (ts : List Term) → map (λ (y : Term × A). y.0) (map (λ t. (t, h t)) ts) ≡ ts
  firsts [] = refl
  firsts (t ∷ ts) = ap (λ us. t ∷ us) (firsts ts)

  whole-is : (x : Term-F Term) → whole (map-Term Term (Term × A) (λ t. (t, h t)) x) ≡ roll-Term x
  whole-is (Term-F.Var n s) = refl
  whole-is (Term-F.In k) = refl
  whole-is (Term-F.App f ts) = ap (λ us. roll-Term (Term-F.App f us)) (firsts ts)

arguments-map : {X Y : Type 0} (h : X → Y) (x : Term-F X) → arguments_of_node (map-Term X Y h x) ≡ map h (arguments_of_node x)
arguments-map h (Term-F.Var n s) = refl
arguments-map h (Term-F.In k) = refl
arguments-map h (Term-F.App f ts) = refl

pub list_any-map : {X Y : Type 0} (test : Y → Bool) (h : X → Y) (xs : List X) → list_any test (map h xs) ≡ list_any (λ x. test (h x)) xs
list_any-map test h [] = refl
list_any-map test h (x ∷ xs) = ap (λ b. test (h x) || b) (list_any-map test h xs)

pub is_part-is : (t s : Term) → is_part t s ≡ (same_term t s || list_any (is_part t) (args_of s))
unfolding is_part
is_part-is t s =
    let x = out-Term s in
    let h : Term → Term × Bool = λ u. (u, is_part t u) in
    sym (ap (is_part t) (roll-out-Term s))
    ∙ para-roll-Term Bool (part_step t) x
    ∙ rw (whole-is (is_part t) x, arguments-map h x, list_any-map (λ (y : Term × Bool). y.1) h (arguments_of_node x), roll-out-Term s, args_of-node s) refl

-- the first argument is greater, or it is the same and so on with the rest
abbrev pub lex_greater : Signature → List Term → List Term → Bool
lex_greater sig [] us = false
lex_greater sig (a ∷ as_) [] = false
lex_greater sig (a ∷ as_) (u ∷ us) = greater sig a u || (same_term a u && lex_greater sig as_ us)

abbrev pub by_lex : Signature → Term → Term → Bool
by_lex sig s t = same_head (out-Term s) (out-Term t) && exceeds_all sig s (args_of t) && lex_greater sig (args_of s) (args_of t)

abbrev pub four_cases : Signature → Term → Term → Bool
four_cases sig s t = inner_variable t s || by_part sig s t || by_head sig s t || by_lex sig s t

module _ (sig : Signature) where
  module _ (k : Term → Bool) where
    first-is : (as_ us : List Term) → first_left (map (λ a. (a, greater sig a)) as_) (map (λ u. (u, k u)) us) ≡ lex_greater sig as_ us
    first-is [] us = refl
    first-is (a ∷ as_) [] = refl
    first-is (a ∷ as_) (u ∷ us) = ap (λ b. greater sig a u || (same_term a u && b)) (first-is as_ us)

    above-is : (x y : Term-F Term) → head_above sig (map-Term Term LeftArgument (λ a. (a, greater sig a)) x) (map-Term Term RightArgument (λ u. (u, k u)) y) ≡ head_above sig x y
    above-is (Term-F.Var n s) y = refl
    above-is (Term-F.In i) (Term-F.Var n s) = refl
    above-is (Term-F.In i) (Term-F.In j) = refl
    above-is (Term-F.In i) (Term-F.App g us) = refl
    above-is (Term-F.App f ts) (Term-F.Var n s) = refl
    above-is (Term-F.App f ts) (Term-F.In j) = refl
    above-is (Term-F.App f ts) (Term-F.App g us) = refl

    same-is : (x y : Term-F Term) → same_head (map-Term Term LeftArgument (λ a. (a, greater sig a)) x) (map-Term Term RightArgument (λ u. (u, k u)) y) ≡ same_head x y
    same-is (Term-F.Var n s) y = refl
    same-is (Term-F.In i) (Term-F.Var n s) = refl
    same-is (Term-F.In i) (Term-F.In j) = refl
    same-is (Term-F.In i) (Term-F.App g us) = refl
    same-is (Term-F.App f ts) (Term-F.Var n s) = refl
    same-is (Term-F.App f ts) (Term-F.In j) = refl
    same-is (Term-F.App f ts) (Term-F.App g us) = refl

  opened : (x : Term-F Term) → greater sig (roll-Term x) ≡ para-Term Bool (compared sig (map-Term Term LeftArgument (λ a. (a, greater sig a)) x))
  unfolding greater
  opened x = para-roll-Term (Term → Bool) (greater_step sig) x

  rolled : (x y : Term-F Term) → greater sig (roll-Term x) (roll-Term y) ≡ four_cases sig (roll-Term x) (roll-Term y)
  rolled x y =
      let s = roll-Term x in
      let j : Term → LeftArgument = λ a. (a, greater sig a) in
      let k : Term → RightArgument = λ u. (u, greater sig s u) in
      let c : Term-F RightArgument → Bool = compared sig (map-Term Term LeftArgument j x) in
      ap (λ (g : Term → Bool). g (roll-Term y)) (opened x)
      ∙ para-roll-Term Bool c y
      ∙ ap (λ (g : Term → Bool). c (map-Term Term RightArgument (λ u. (u, g u)) y)) (sym (opened x))
      ∙ rw (whole-is (greater sig) x, whole-is (greater sig s) y, above-is (greater sig s) x y, same-is (greater sig s) x y, arguments-map j x, arguments-map k y)
      (rw (list_any-map (λ (a : LeftArgument). same_term a.0 (roll-Term y) || a.1 (roll-Term y)) j (arguments_of_node x), list_all-map (λ (u : RightArgument). u.1) k (arguments_of_node y), first-is (greater sig s) (arguments_of_node x) (arguments_of_node y), out-roll-Term x, out-roll-Term y, args_of-roll x, args_of-roll y) refl)

pub greater-is : (sig : Signature) (s t : Term) → greater sig s t ≡ four_cases sig s t
greater-is sig s t = rw (← roll-out-Term s) (rw (← roll-out-Term t) (rolled sig (out-Term s) (out-Term t)))
