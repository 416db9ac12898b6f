-- Going over two lists of arguments.
use Rattle.std.specs.List.{sum_by}
use Rattle.std.proofs.Common.{◌≡◌, ◌+◌, ◌<◌, ◌≤◌, ℕ, zero, suc, true, false, List, [], ◌∷◌, refl, arith, length, drop, get_or}
use Rattle.std.proofs.Math.ListN.{drop_of_length-le}
use Rattle.std.proofs.lemmas.List.{drop_more}
use Rattle.std.proofs.lemmas.List.Sums.{sum_by-cons, sum_by-take-drop}
use Rattle.am_term.specs.declared.signature.Signature.{Signature}
use Rattle.am_term.specs.declared.term.Term.{Term}
use Rattle.am_term.specs.Same.{same_term}
use Rattle.am_term.specs.Weight.{nodes}
use Rattle.am_order.specs.Order.{greater}
use Rattle.am_order.specs.Cases.{first_greater}

-- sums over a list bound its members
pub nodes-le-sum : (ts : List Term) (i : ℕ) (d : Term) → i < length ts → nodes (get_or ts i d) ≤ sum_by nodes ts
nodes-le-sum [] i d h = absurd (omega arith)
nodes-le-sum (t ∷ ts) zero d h = omega (arith, sum_by-cons nodes t ts)
nodes-le-sum (t ∷ ts) (suc i) d h = omega (arith, sum_by-cons nodes t ts, nodes-le-sum ts i d (omega arith))

pub nodes-drop : (ts : List Term) (i : ℕ) → sum_by nodes (drop i ts) ≤ sum_by nodes ts
nodes-drop ts i = omega (arith, sum_by-take-drop nodes ts i)

module _ (sig : Signature) where
  pub first-same : (as_ us : List Term) (i : ℕ) (d : Term) → i < length as_ → i < length us → same_term (get_or as_ i d) (get_or us i d) ≡ true →
      first_greater sig (drop i as_) (drop i us) ≡ first_greater sig (drop (i + 1) as_) (drop (i + 1) us)
  first-same as_ us i d h k e = rw (drop_more as_ i d h, drop_more us i d k, e) refl

  pub first-differ : (as_ us : List Term) (i : ℕ) (d : Term) → i < length as_ → i < length us → same_term (get_or as_ i d) (get_or us i d) ≡ false →
      first_greater sig (drop i as_) (drop i us) ≡ greater sig (get_or as_ i d) (get_or us i d)
  first-differ as_ us i d h k e = rw (drop_more as_ i d h, drop_more us i d k, e) refl

  first-none : (as_ : List Term) → first_greater sig as_ [] ≡ false
  first-none [] = refl
  first-none (a ∷ as_) = refl

  pub first-end-left : (as_ us : List Term) (i : ℕ) → length as_ ≤ i → first_greater sig (drop i as_) (drop i us) ≡ false
  first-end-left as_ us i h = rw (drop_of_length-le as_ h) refl

  pub first-end-right : (as_ us : List Term) (i : ℕ) → length us ≤ i → first_greater sig (drop i as_) (drop i us) ≡ false
  first-end-right as_ us i h = rw (drop_of_length-le us h) (first-none (drop i as_))

pub ruleset lists = (nodes-le-sum, first-same, first-differ, first-end-left, first-end-right)
