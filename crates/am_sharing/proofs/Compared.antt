-- The order of two ids' terms, by their nodes.
use Rattle.std.proofs.Common.{◌≡◌, ◌==◌, ◌+◌, ◌<◌, ◌≤◌, ◌∙◌, ℕ, zero, suc, Bool, true, false, List, [], ◌∷◌, refl, sym, ap, ap₂, map, length, drop, get_or, arith, nat_lt}
use Rattle.std.proofs.lemmas.List.{drop_more}
use Rattle.std.proofs.Math.ListN.{drop_of_length-le}
use Rattle.std.specs.List.{list_all}
use Rattle.am_term.specs.declared.id.SortId.{SortId}
use Rattle.am_term.specs.declared.id.SymId.{SymId}
use Rattle.am_term.specs.declared.signature.Signature.{Signature}
use Rattle.am_term.specs.declared.term.Term.{Term}
use Rattle.am_term.specs.declared.term.Term.TheVariants as term
use Rattle.am_term.specs.Same.{same_term}
use Rattle.am_order.specs.Precedence.{above}
use Rattle.am_order.specs.Order.{greater}
use Rattle.am_order.specs.Parts.{common_front}
use Rattle.am_order.specs.Cases.{reaches, some_reaches as some_term_reaches, exceeds_all as exceeds_all_terms}
use Rattle.am_order.proofs.Unfold.{list_any-map}
use Rattle.am_order.proofs.Shapes.{greater-Var, greater-In-Var, greater-In-In, greater-In-App, greater-App-Var, greater-App-In}
use Rattle.am_order.proofs.Quick.{greater-above, greater-below, ended-left, ended-right, differ-greater, differ-lesser}
use Rattle.am_bank.specs.declared.id.TermId.{TermId}
use Rattle.am_bank.specs.Node.{Shared}
use Rattle.am_bank.specs.Bank.{IsBank}
use Rattle.am_sharing.specs.Terms.{term_at, terms_at, some_reaches, exceeds_all}
use Rattle.am_sharing.specs.Bound.{id_bound}
use Rattle.am_sharing.proofs.Nodes.{same-id, bound-at}

list_all-map : {X Y : Type 0} (test : Y → Bool) (h : X → Y) (xs : List X) → list_all test (map h xs) ≡ list_all (λ x. test (h x)) xs
list_all-map test h [] = refl
list_all-map test h (x ∷ xs) = rw (list_all-map test h xs) refl

map-drop : {X Y : Type 0} (h : X → Y) (i : ℕ) (xs : List X) → map h (drop i xs) ≡ drop i (map h xs)
map-drop h zero xs = refl
map-drop h (suc i) [] = refl
map-drop h (suc i) (x ∷ xs) = map-drop h i xs

pub length-map : {X Y : Type 0} (h : X → Y) (xs : List X) → length (map h xs) ≡ length xs
length-map h [] = refl
length-map h (x ∷ xs) = ap suc (length-map h xs)

get_or-map : {X Y : Type 0} (h : X → Y) (xs : List X) (i : ℕ) (d : X) (e : Y) → i < length xs → get_or (map h xs) i e ≡ h (get_or xs i d)
get_or-map h [] i d e l = absurd (omega arith)
get_or-map h (x ∷ xs) zero d e l = refl
get_or-map h (x ∷ xs) (suc i) d e l = get_or-map h xs i d e (omega arith)

module _ (sig : Signature) (ns : List Shared) where
  some-terms : (ids : List TermId) (t : ℕ) → some_term_reaches sig (terms_at ns ids) (term_at ns t) ≡ some_reaches sig ns ids t
  some-terms ids t = list_any-map (λ a. reaches sig a (term_at ns t)) (λ (i : TermId). term_at ns i.0) ids

  all-terms : (s : ℕ) (ids : List TermId) → exceeds_all_terms sig (term_at ns s) (terms_at ns ids) ≡ exceeds_all sig ns s ids
  all-terms s ids = list_all-map (greater sig (term_at ns s)) (λ (i : TermId). term_at ns i.0) ids

  behind : (ids : List TermId) (i : ℕ) → terms_at ns (drop i ids) ≡ drop i (terms_at ns ids)
  behind ids i = map-drop (λ (j : TermId). term_at ns j.0) i ids

  module _ (s t : ℕ) where
    abbrev Is : Bool → Type 0
    Is b = greater sig (term_at ns s) (term_at ns t) ≡ b

    pub is-Var : (n : ℕ) (r : SortId) → term_at ns s ≡ term.Var n r → Is false
    is-Var n r e = rw e (greater-Var sig n r (term_at ns t))

    pub is-In-Var : (k n : ℕ) (r : SortId) → term_at ns s ≡ term.In k → term_at ns t ≡ term.Var n r → Is false
    is-In-Var k n r e h = rw (e, h) (greater-In-Var sig k n r)

    pub is-In-In : (k j : ℕ) → term_at ns s ≡ term.In k → term_at ns t ≡ term.In j → Is (nat_lt j k)
    is-In-In k j e h = rw (e, h) (greater-In-In sig k j)

    pub is-In-App : (k : ℕ) (g : SymId) (us : List Term) → term_at ns s ≡ term.In k → term_at ns t ≡ term.App g us → Is false
    is-In-App k g us e h = rw (e, h) (greater-In-App sig k g us)

    pub is-App-In : (f : SymId) (ts : List Term) (k : ℕ) → term_at ns s ≡ term.App f ts → term_at ns t ≡ term.In k → Is true
    is-App-In f ts k e h = rw (e, h) (greater-App-In sig f ts k)

    pub is-App-Var : (f : SymId) (ids : List TermId) (n : ℕ) (r : SortId) → term_at ns s ≡ term.App f (terms_at ns ids) → term_at ns t ≡ term.Var n r → Is (some_reaches sig ns ids t)
    is-App-Var f ids n r e h =
        ap₂ (greater sig) e h ∙ greater-App-Var sig f (terms_at ns ids) n r ∙ ap (some_term_reaches sig (terms_at ns ids)) (sym h) ∙ some-terms ids t

    module _ (f g : SymId) (is js : List TermId) (e : term_at ns s ≡ term.App f (terms_at ns is)) (h : term_at ns t ≡ term.App g (terms_at ns js)) where
      both : greater sig (term_at ns s) (term_at ns t) ≡ greater sig (term.App f (terms_at ns is)) (term.App g (terms_at ns js))
      both = ap₂ (greater sig) e h

      all-are : (us : List TermId) → exceeds_all_terms sig (term.App f (terms_at ns is)) (terms_at ns us) ≡ exceeds_all sig ns s us
      all-are us = ap (λ (a : Term). exceeds_all_terms sig a (terms_at ns us)) (sym e) ∙ all-terms s us

      some-are : (us : List TermId) → some_term_reaches sig (terms_at ns us) (term.App g (terms_at ns js)) ≡ some_reaches sig ns us t
      some-are us = ap (some_term_reaches sig (terms_at ns us)) (sym h) ∙ some-terms us t

      pub is-above : above sig f g ≡ true → Is (exceeds_all sig ns s js)
      is-above a = both ∙ greater-above sig f g (terms_at ns is) (terms_at ns js) a ∙ all-are js

      pub is-below : above sig f g ≡ false → (f.0 == g.0) ≡ false → Is (some_reaches sig ns is t)
      is-below a n = both ∙ greater-below sig f g (terms_at ns is) (terms_at ns js) a n ∙ some-are is

      pub is-ended-left : (m : ℕ) → f.0 ≡ g.0 → m ≡ common_front (terms_at ns is) (terms_at ns js) → length is ≤ m → Is (some_reaches sig ns (drop m is) t)
      is-ended-left m n o l =
          let k = length-map (λ (i : TermId). term_at ns i.0) is in
          both ∙ ended-left sig f g (terms_at ns is) (terms_at ns js) n (omega arith)
          ∙ ap (λ (q : ℕ). some_term_reaches sig (drop q (terms_at ns is)) (term.App g (terms_at ns js))) (sym o)
          ∙ ap (λ (ts : List Term). some_term_reaches sig ts (term.App g (terms_at ns js))) (sym (behind is m))
          ∙ some-are (drop m is)

      pub is-ended-right : (m : ℕ) → f.0 ≡ g.0 → m ≡ common_front (terms_at ns is) (terms_at ns js) → length js ≤ m → Is (some_reaches sig ns (drop m is) t)
      is-ended-right m n o l =
          let k = length-map (λ (i : TermId). term_at ns i.0) js in
          both ∙ ended-right sig f g (terms_at ns is) (terms_at ns js) n (omega arith)
          ∙ ap (λ (q : ℕ). some_term_reaches sig (drop q (terms_at ns is)) (term.App g (terms_at ns js))) (sym o)
          ∙ ap (λ (ts : List Term). some_term_reaches sig ts (term.App g (terms_at ns js))) (sym (behind is m))
          ∙ some-are (drop m is)

      -- the ids at the first place where the terms differ
      module _ (m : ℕ) (d : TermId) (n : f.0 ≡ g.0) (o : m ≡ common_front (terms_at ns is) (terms_at ns js)) (k : m < length is) (l : m < length js) where
        abbrev x : Term
        x = term_at ns (get_or is m d).0

        abbrev y : Term
        y = term_at ns (get_or js m d).0

        left-within : m < length (terms_at ns is)
        left-within = let q = length-map (λ (i : TermId). term_at ns i.0) is in omega arith

        right-within : m < length (terms_at ns js)
        right-within = let q = length-map (λ (i : TermId). term_at ns i.0) js in omega arith

        left-at : x ≡ get_or (terms_at ns is) m x
        left-at = sym (get_or-map (λ (i : TermId). term_at ns i.0) is m d x k)

        right-at : y ≡ get_or (terms_at ns js) m y
        right-at = sym (get_or-map (λ (i : TermId). term_at ns i.0) js m d y l)

        pub is-greater : greater sig x y ≡ true → Is (exceeds_all sig ns s (drop (m + 1) js))
        is-greater c =
            both ∙ differ-greater sig f g (terms_at ns is) (terms_at ns js) n m x y o left-within right-within left-at right-at c
            ∙ ap (exceeds_all_terms sig (term.App f (terms_at ns is))) (sym (behind js (m + 1)))
            ∙ all-are (drop (m + 1) js)

        pub is-lesser : greater sig x y ≡ false → Is (some_reaches sig ns (drop (m + 1) is) t)
        is-lesser c =
            both ∙ differ-lesser sig f g (terms_at ns is) (terms_at ns js) n m x y o left-within right-within left-at right-at c
            ∙ ap (λ (ts : List Term). some_term_reaches sig ts (term.App g (terms_at ns js))) (sym (behind is (m + 1)))
            ∙ some-are (drop (m + 1) is)

-- how many terms are common from the front
module _ (ns : List Shared) where
  pub front-none : (is js : List TermId) (i : ℕ) → length is ≤ i → common_front (terms_at ns (drop i is)) (terms_at ns (drop i js)) ≡ 0
  front-none is js i l = rw (drop_of_length-le is l) refl

  pub front-ends : (is js : List TermId) (i : ℕ) → length js ≤ i → common_front (terms_at ns (drop i is)) (terms_at ns (drop i js)) ≡ 0
  front-ends is js i l = rw (drop_of_length-le js l) (nothing (terms_at ns (drop i is)))
    where
      nothing : (ts : List Term) → common_front ts [] ≡ 0
      nothing [] = refl
      nothing (t ∷ ts) = refl

  module _ (bank : IsBank ns) (is js : List TermId) (i : ℕ) (d : TermId) (k : i < length is) (l : i < length js) (p : id_bound is ≤ length ns) (q : id_bound js ≤ length ns) where
    same : ((get_or is i d).0 == (get_or js i d).0) ≡ same_term (term_at ns (get_or is i d).0) (term_at ns (get_or js i d).0)
    same = let a = bound-at is i d k in let b = bound-at js i d l in same-id ns bank (get_or is i d).0 (get_or js i d).0 (omega arith) (omega arith)

    pub front-same : ((get_or is i d).0 == (get_or js i d).0) ≡ true → common_front (terms_at ns (drop i is)) (terms_at ns (drop i js)) ≡ common_front (terms_at ns (drop (i + 1) is)) (terms_at ns (drop (i + 1) js)) + 1
    front-same e = rw (drop_more is i d k, drop_more js i d l, ← same, e) (omega arith)

    pub front-differ : ((get_or is i d).0 == (get_or js i d).0) ≡ false → common_front (terms_at ns (drop i is)) (terms_at ns (drop i js)) ≡ 0
    front-differ e = rw (drop_more is i d k, drop_more js i d l, ← same, e) refl
