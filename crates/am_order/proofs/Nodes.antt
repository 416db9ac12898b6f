-- How many nodes the arguments of a term have, and tests of lists whose members are bounded by it.
use Rattle.std.specs.List.{sum_by, list_any, list_all}
use Rattle.std.proofs.Common.{◌≡◌, ◌+◌, ◌≤◌, ◌∙◌, Bool, true, List, [], ◌∷◌, sym, ap, arith, inl, inr}
use Rattle.std.proofs.lemmas.List.Sums.{sum_by-cons}
use Rattle.am_term.specs.declared.term.Term.{Term}
use Rattle.am_term.specs.declared.term.Term.TheOpen.{Term-F}
use Rattle.am_term.specs.declared.term.Term.TheViews.{out-Term, roll-Term, roll-out-Term}
use Rattle.am_term.specs.declared.term.Term.TheVariants.{rolls-Var, rolls-In, rolls-App}
use Rattle.am_term.specs.Place.{args_of}
use Rattle.am_term.specs.Weight.{nodes, nodes-Var, nodes-In, nodes-App}
use Rattle.am_term.proofs.Tests.{and_left, and_right, and_both, or_cases, or_left, or_right}
use Rattle.am_order.specs.Parts.{arguments_of_node}
use Rattle.am_order.proofs.Ties.{args_of-node}

nodes-rolls : (x : Term-F Term) → nodes (roll-Term x) ≡ sum_by nodes (arguments_of_node x) + 1
nodes-rolls (Term-F.Var n s) = rw rolls-Var (nodes-Var n s)
nodes-rolls (Term-F.In k) = rw rolls-In (nodes-In k)
nodes-rolls (Term-F.App f ts) = rw rolls-App (nodes-App f ts)

pub nodes-is : (t : Term) → nodes t ≡ sum_by nodes (args_of t) + 1
nodes-is t = ap nodes (sym (roll-out-Term t)) ∙ nodes-rolls (out-Term t) ∙ ap (λ ts. sum_by nodes ts + 1) (sym (args_of-node t))

-- a test that members of a list pass may be replaced by one that they pass too
module _ (p q : Term → Bool) where
  pub any_within : (ts : List Term) → ((t : Term) → nodes t ≤ sum_by nodes ts → p t ≡ true → q t ≡ true) → list_any p ts ≡ true → list_any q ts ≡ true
  any_within [] h e = e
  any_within (t ∷ ts) h e = elim (or_cases (p t) (list_any p ts) e) [
    | inl a ↦ or_left (q t) (list_any q ts) (h t (omega (arith, sum_by-cons nodes t ts)) a)
    | inr b ↦ or_right (q t) (list_any q ts) (any_within ts (λ u l. h u (omega (arith, sum_by-cons nodes t ts))) b)
  ]

  pub all_within : (ts : List Term) → ((t : Term) → nodes t ≤ sum_by nodes ts → p t ≡ true → q t ≡ true) → list_all p ts ≡ true → list_all q ts ≡ true
  all_within [] h e = e
  all_within (t ∷ ts) h e =
      and_both (q t) (list_all q ts)
      (h t (omega (arith, sum_by-cons nodes t ts)) (and_left (p t) (list_all p ts) e))
      (all_within ts (λ u l. h u (omega (arith, sum_by-cons nodes t ts))) (and_right (p t) (list_all p ts) e))

-- the member that passes gives what each such member gives
pub any_gives : {P : Type 0} (p : Term → Bool) (ts : List Term) → ((t : Term) → nodes t ≤ sum_by nodes ts → p t ≡ true → P) → list_any p ts ≡ true → P
any_gives p [] h e = absurd cc
any_gives p (t ∷ ts) h e = elim (or_cases (p t) (list_any p ts) e) [
  | inl a ↦ h t (omega (arith, sum_by-cons nodes t ts)) a
  | inr b ↦ any_gives p ts (λ u l. h u (omega (arith, sum_by-cons nodes t ts))) b
]
