-- What is left to look at once the heads are compared, and once the first arguments that differ are.
use Rattle.std.specs.Prelude.{if◌then◌else◌}
use Rattle.std.proofs.Common.{◌≡◌, ◌==◌, ◌+◌, ◌<◌, ◌≤◌, ◌&&◌, ◌||◌, ◌∙◌, ℕ, suc, Bool, true, false, List, [], ◌∷◌, refl, sym, ap, subst, arith, inl, inr, length, drop, get_or}
use Rattle.std.proofs.lemmas.Bool.Decides.{nat_tests}
use Rattle.std.proofs.lemmas.List.{drop_more}
use Rattle.std.proofs.Math.ListN.{drop_of_length-le}
use Rattle.am_term.specs.declared.id.SymId.{SymId}
use Rattle.am_term.specs.declared.signature.Signature.{Signature}
use Rattle.am_term.specs.declared.term.Term.{Term}
use Rattle.am_term.specs.declared.term.Term.TheOpen.{Term-F}
use Rattle.am_term.specs.declared.term.Term.TheVariants.{App}
use Rattle.am_term.specs.Place.{args_of-App}
use Rattle.am_term.specs.Same.{same_term}
use Rattle.am_term.proofs.Tests.{and_left, and_right, and_false, or_false, or_cases, fails}
use Rattle.am_term.proofs.Alike.{same_term-sound}
use Rattle.am_order.specs.Precedence.{above}
use Rattle.am_order.specs.Parts.{common_front}
use Rattle.am_order.specs.Order.{greater}
use Rattle.am_order.specs.Cases.{reaches, some_reaches, exceeds_all, first_greater}
use Rattle.am_order.proofs.Heads.{head_above-irreflexive}
use Rattle.am_order.proofs.Nodes.{all_within}
use Rattle.am_order.proofs.Shapes.{greater-App-App}
use Rattle.am_order.proofs.Cases.{greater-reached, reaches_cases}
use Rattle.am_order.proofs.Trans.{greater-trans, reaches-trans, greater-irreflexive, exceeds-args}

-- what tests come to in each case

same_case : (r p g x q d : Bool) → r ≡ false → g ≡ true → (p || (x && q)) ≡ d → ((r || p) || ((g && x) && q)) ≡ d
same_case true p g x q d h k e = absurd cc
same_case false p true x q d h k e = e
same_case false p false x q d h k e = absurd cc

greater_case : (m g x : Bool) → (m ≡ true → x ≡ true) → g ≡ true → (m || ((g && x) && true)) ≡ x
greater_case true g true h k = refl
greater_case true g false h k = absurd (let e : false ≡ true = h refl in cc)
greater_case false true true h k = refl
greater_case false true false h k = refl
greater_case false false x h k = absurd cc

lesser_case : (r p y : Bool) → r ≡ false → ((r || p) || (y && false)) ≡ p
lesser_case true p y h = absurd cc
lesser_case false true y h = refl
lesser_case false false true h = refl
lesser_case false false false h = refl

widened : (a b c d : Bool) → c ≡ true → (a ≡ true → b ≡ true) → (a || (b && (c || d))) ≡ b
widened true true c d e h = refl
widened true false c d e h = absurd (let i : false ≡ true = h refl in cc)
widened false true true d e h = refl
widened false true false d e h = absurd cc
widened false false c d e h = refl

narrowed : (a b c d e : Bool) → c ≡ false → d ≡ false → (a || (b && (c || (d && e)))) ≡ a
narrowed true b c d e h k = refl
narrowed false true true d e h k = absurd cc
narrowed false true false true e h k = absurd cc
narrowed false true false false e h k = refl
narrowed false false c d e h k = refl

levelled : (a b c d e : Bool) → c ≡ false → d ≡ true → (a || (b && (c || (d && e)))) ≡ (a || (b && e))
levelled a b true d e h k = absurd cc
levelled a b false true e h k = refl
levelled a b false false e h k = absurd cc

module _ (sig : Signature) where
  -- what is greater than a term is greater than the terms that it exceeds
  exceeds-trans : (s t : Term) (us : List Term) → greater sig s t ≡ true → exceeds_all sig t us ≡ true → exceeds_all sig s us ≡ true
  exceeds-trans s t us g e = all_within (greater sig t) (greater sig s) us (λ u l h. greater-trans sig s t u g h) e

  exceeds-own : (f : SymId) (ts : List Term) → exceeds_all sig (App f ts) ts ≡ true
  exceeds-own f ts = subst (λ us. exceeds_all sig (App f ts) us ≡ true) (args_of-App f ts) (exceeds-args sig (App f ts))

  reached-own : (f : SymId) (ts : List Term) (t : Term) → some_reaches sig ts t ≡ true → greater sig (App f ts) t ≡ true
  reached-own f ts t r = greater-reached sig (App f ts) t (subst (λ us. some_reaches sig us t ≡ true) (sym (args_of-App f ts)) r)

  -- a greater head: the arguments of the other term are all that is left to look at

  pub greater-above : (f g : SymId) (as_ us : List Term) → above sig f g ≡ true → greater sig (App f as_) (App g us) ≡ exceeds_all sig (App f as_) us
  greater-above f g as_ us h =
      greater-App-App sig f as_ g us
      ∙ widened (some_reaches sig as_ (App g us)) (exceeds_all sig (App f as_) us) (above sig f g) (f.0 == g.0 && first_greater sig as_ us) h
      (λ r. exceeds-trans (App f as_) (App g us) us (reached-own f as_ (App g us) r) (exceeds-own g us))

  -- a lesser head: the arguments of the term itself are

  pub greater-below : (f g : SymId) (as_ us : List Term) → above sig f g ≡ false → (f.0 == g.0) ≡ false → greater sig (App f as_) (App g us) ≡ some_reaches sig as_ (App g us)
  greater-below f g as_ us h k =
      greater-App-App sig f as_ g us
      ∙ narrowed (some_reaches sig as_ (App g us)) (exceeds_all sig (App f as_) us) (above sig f g) (f.0 == g.0) (first_greater sig as_ us) h k

  -- the same heads: the arguments behind the first ones that differ are

  module _ (s t : Term) where
    -- s is greater than t, which has the same head, as the arguments behind those in front that are the same decide
    abbrev ending : List Term → List Term → Bool
    ending [] us = false
    ending (a ∷ as_) [] = some_reaches sig (a ∷ as_) t
    ending (a ∷ as_) (u ∷ us) = if greater sig a u then exceeds_all sig s us else some_reaches sig as_ t

    abbrev decided : List Term → List Term → Bool
    decided as_ us = ending (drop (common_front as_ us) as_) (drop (common_front as_ us) us)

    abbrev left : List Term → List Term → Bool
    left as_ us = some_reaches sig as_ t || (exceeds_all sig s us && first_greater sig as_ us)

    -- an argument of s that isn't greater than one of t doesn't reach t
    unreached : (a u : Term) → greater sig t u ≡ true → greater sig a u ≡ false → reaches sig a t ≡ false
    unreached a u h e = fails (reaches sig a t) (λ r. let d : greater sig a u ≡ true = reaches-trans sig a t u r h in absurd cc)

    some-greater : (as_ : List Term) → exceeds_all sig s as_ ≡ true → some_reaches sig as_ t ≡ true → greater sig s t ≡ true
    some-greater [] e r = absurd cc
    some-greater (a ∷ as_) e r = elim (or_cases (reaches sig a t) (some_reaches sig as_ t) r) [
      | inl h ↦ reaches_cases sig a t h
          (λ i. subst (λ x. greater sig s x ≡ true) i (and_left (greater sig s a) (exceeds_all sig s as_) e))
          (λ g. greater-trans sig s a t (and_left (greater sig s a) (exceeds_all sig s as_) e) g)
      | inr h ↦ some-greater as_ (and_right (greater sig s a) (exceeds_all sig s as_) e) h
    ]

    settled-more : (a u : Term) (as_ us : List Term) (b : Bool) → same_term a u ≡ b →
        exceeds_all sig s (a ∷ as_) ≡ true → exceeds_all sig t (u ∷ us) ≡ true → left as_ us ≡ decided as_ us →
        ((reaches sig a t || some_reaches sig as_ t) || ((greater sig s u && exceeds_all sig s us) && (if b then first_greater sig as_ us else greater sig a u)))
        ≡ ending (drop (if b then suc (common_front as_ us) else 0) (a ∷ as_)) (drop (if b then suc (common_front as_ us) else 0) (u ∷ us))
    settled-more a u as_ us true i e f h =
        let j : a ≡ u = same_term-sound a u i in
        same_case (reaches sig a t) (some_reaches sig as_ t) (greater sig s u) (exceeds_all sig s us) (first_greater sig as_ us) (decided as_ us)
        (unreached a u (and_left (greater sig t u) (exceeds_all sig t us) f) (subst (λ x. greater sig a x ≡ false) j (greater-irreflexive sig a)))
        (subst (λ x. greater sig s x ≡ true) j (and_left (greater sig s a) (exceeds_all sig s as_) e))
        h
    settled-more a u as_ us false i e f h = settled-differ (greater sig a u) refl
      where
        settled-differ : (b : Bool) → greater sig a u ≡ b →
            ((reaches sig a t || some_reaches sig as_ t) || ((greater sig s u && exceeds_all sig s us) && b))
            ≡ (if b then exceeds_all sig s us else some_reaches sig as_ t)
        settled-differ true d =
            greater_case (some_reaches sig (a ∷ as_) t) (greater sig s u) (exceeds_all sig s us)
            (λ r. exceeds-trans s t us (some-greater (a ∷ as_) e r) (and_right (greater sig t u) (exceeds_all sig t us) f))
            (greater-trans sig s a u (and_left (greater sig s a) (exceeds_all sig s as_) e) d)
        settled-differ false d =
            lesser_case (reaches sig a t) (some_reaches sig as_ t) (greater sig s u && exceeds_all sig s us)
            (unreached a u (and_left (greater sig t u) (exceeds_all sig t us) f) d)

    settled : (as_ us : List Term) → exceeds_all sig s as_ ≡ true → exceeds_all sig t us ≡ true → left as_ us ≡ decided as_ us
    settled [] us e h = and_false (exceeds_all sig s us)
    settled (a ∷ as_) [] e h = or_false (some_reaches sig (a ∷ as_) t)
    settled (a ∷ as_) (u ∷ us) e h =
        settled-more a u as_ us (same_term a u) refl e h
        (settled as_ us (and_right (greater sig s a) (exceeds_all sig s as_) e) (and_right (greater sig t u) (exceeds_all sig t us) h))

    ending-none : (as_ : List Term) → ending as_ [] ≡ some_reaches sig as_ t
    ending-none [] = refl
    ending-none (a ∷ as_) = refl

  number-same : (n : ℕ) → (n == n) ≡ true
  number-same n = grind (arith, nat_tests)

  module _ (f g : SymId) (as_ us : List Term) (e : f.0 ≡ g.0) where
    level : greater sig (App f as_) (App g us) ≡ decided (App f as_) (App g us) as_ us
    level =
        let i : f ≡ g = ap (λ (n : ℕ). let r : SymId = record { 0 = n } in r) e in
        greater-App-App sig f as_ g us
        ∙ levelled (some_reaches sig as_ (App g us)) (exceeds_all sig (App f as_) us) (above sig f g) (f.0 == g.0) (first_greater sig as_ us)
        (subst (λ h. above sig f h ≡ false) i (head_above-irreflexive sig (Term-F.App f as_)))
        (subst (λ n. (f.0 == n) ≡ true) e (number-same f.0))
        ∙ settled (App f as_) (App g us) as_ us (exceeds-own f as_) (exceeds-own g us)

    -- one list of arguments begins with the other
    pub ended-left : length as_ ≤ common_front as_ us → greater sig (App f as_) (App g us) ≡ some_reaches sig (drop (common_front as_ us) as_) (App g us)
    ended-left l = level ∙ rw (drop_of_length-le as_ l) refl

    pub ended-right : length us ≤ common_front as_ us → greater sig (App f as_) (App g us) ≡ some_reaches sig (drop (common_front as_ us) as_) (App g us)
    ended-right l = level ∙ rw (drop_of_length-le us l) (ending-none (App f as_) (App g us) (drop (common_front as_ us) as_))

    -- x and y are the first arguments that differ
    module _ (m : ℕ) (x y : Term) (o : m ≡ common_front as_ us) (k : m < length as_) (l : m < length us) (i : x ≡ get_or as_ m x) (j : y ≡ get_or us m y) where
      pub differ-greater : greater sig x y ≡ true → greater sig (App f as_) (App g us) ≡ exceeds_all sig (App f as_) (drop (m + 1) us)
      differ-greater h = level ∙ rw (← o, drop_more as_ m x k, drop_more us m y l, ← i, ← j, h) refl

      pub differ-lesser : greater sig x y ≡ false → greater sig (App f as_) (App g us) ≡ some_reaches sig (drop (m + 1) as_) (App g us)
      differ-lesser h = level ∙ rw (← o, drop_more as_ m x k, drop_more us m y l, ← i, ← j, h) refl

-- how many are in common

pub front-none : (as_ us : List Term) (i : ℕ) → length as_ ≤ i → common_front (drop i as_) (drop i us) ≡ 0
front-none as_ us i l = rw (drop_of_length-le as_ l) refl

pub front-ends : (as_ us : List Term) (i : ℕ) → length us ≤ i → common_front (drop i as_) (drop i us) ≡ 0
front-ends as_ us i l = rw (drop_of_length-le us l) (nothing (drop i as_))
  where
    nothing : (ts : List Term) → common_front ts [] ≡ 0
    nothing [] = refl
    nothing (t ∷ ts) = refl

pub front-same : (as_ us : List Term) (i : ℕ) (d : Term) → i < length as_ → i < length us → same_term (get_or as_ i d) (get_or us i d) ≡ true → common_front (drop i as_) (drop i us) ≡ common_front (drop (i + 1) as_) (drop (i + 1) us) + 1
front-same as_ us i d k l e = rw (drop_more as_ i d k, drop_more us i d l, e) (omega arith)

pub front-differ : (as_ us : List Term) (i : ℕ) (d : Term) → i < length as_ → i < length us → same_term (get_or as_ i d) (get_or us i d) ≡ false → common_front (drop i as_) (drop i us) ≡ 0
front-differ as_ us i d k l e = rw (drop_more as_ i d k, drop_more us i d l, e) refl
