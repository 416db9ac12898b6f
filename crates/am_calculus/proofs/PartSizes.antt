-- How large a whole is with another part.
use Rattle.std.proofs.Common.{◌≡◌, ◌∙◌, ◌+◌, ◌≤◌, ℕ, zero, suc, refl, sym, ap, subst, arith, List, [], ◌∷◌, set, slice_get, Option, Some, None, option_map, option_and_then}
use Rattle.std.specs.List.{sum_by}
use Rattle.std.proofs.lemmas.List.Sums.{sum_by-cons}
use Rattle.am_term.specs.Induct.{term_cases}
use Rattle.am_term.specs.Parts.{parts_of, with_part, place_in, replaced_in, with_atom, replaced_literal}
use Rattle.am_term.specs.Place.{member, args_of, with_arg, place, replaced, args_of-Var, args_of-In, args_of-App, with_arg-App}
use Rattle.am_term.specs.Weight.{nodes, nodes-App}
use Rattle.am_term.specs.declared.id.SymId.{SymId}
use Rattle.am_term.specs.declared.term.Atom.{Atom}
use Rattle.am_term.specs.declared.term.Atom.TheVariants.{Rel, Eq}
use Rattle.am_term.specs.declared.term.Literal.{Literal}
use Rattle.am_term.specs.declared.term.Term.{Term}
use Rattle.am_term.specs.declared.term.Term.TheVariants.{Var, In, App}
use Rattle.am_clause.specs.Size.{atom_weight}
use Rattle.am_calculus.proofs.PartsBound.{none-there}

-- the sizes of a whole, of a part in it, of another part, and of the whole with that one
pub record IsPut (whole part new made : ℕ) : Type 0 where
  pub sum : made + part ≡ whole + new
  pub within : part ≤ whole

joined : (t x p n u v : ℕ) → IsPut t x u v → IsPut x p n u → IsPut t p n v
joined t x p n u v h k = record { sum = omega (arith, h.sum, k.sum); within = omega (arith, h.within, k.within) }

put-set : (ts : List Term) (i : ℕ) (x u : Term) → slice_get ts i ≡ Some x → IsPut (sum_by nodes ts) (nodes x) (nodes u) (sum_by nodes (set ts i u))
put-set [] i x u e = absurd cc
put-set (t ∷ ts) zero x u e =
    let is : t ≡ x = cc in let s = ap nodes is in
    record { sum = omega (arith, s, sum_by-cons nodes u ts, sum_by-cons nodes t ts); within = omega (arith, s, sum_by-cons nodes t ts) }
put-set (t ∷ ts) (suc i) x u e =
    let h = put-set ts i x u e in
    record { sum = omega (arith, h.sum, sum_by-cons nodes t ts, sum_by-cons nodes t (set ts i u)); within = omega (arith, h.within, sum_by-cons nodes t ts) }

put-app : (f : SymId) (args : List Term) (k : ℕ) (x u : Term) → member args k ≡ Some x → IsPut (nodes (App f args)) (nodes x) (nodes u) (nodes (with_arg (App f args) k u))
put-app f args zero x u e = absurd cc
put-app f args (suc i) x u e =
    let h = put-set args i x u e in
    let made : nodes (with_arg (App f args) (suc i) u) ≡ sum_by nodes (set args i u) + 1 = ap nodes (with_arg-App f args (suc i) u) ∙ nodes-App f (set args i u) in
    record { sum = omega (arith, h.sum, nodes-App f args, made); within = omega (arith, h.within, nodes-App f args) }

put-arg : (t : Term) (k : ℕ) (x u : Term) → member (args_of t) k ≡ Some x → IsPut (nodes t) (nodes x) (nodes u) (nodes (with_arg t k u))
put-arg = term_cases (λ t. (k : ℕ) (x u : Term) → member (args_of t) k ≡ Some x → IsPut (nodes t) (nodes x) (nodes u) (nodes (with_arg t k u)))
    (λ n s k x u e. none-there (args_of (Var n s)) k x (args_of-Var n s) e)
    (λ j k x u e. none-there (args_of (In j)) k x (args_of-In j) e)
    (λ f args k x u e. put-app f args k x u (ap (λ us. member us k) (sym (args_of-App f args)) ∙ e))

put-part : (a : Atom) (k : ℕ) (x u : Term) → member (parts_of a) k ≡ Some x → IsPut (atom_weight a) (nodes x) (nodes u) (atom_weight (with_part a k u))
put-part (Rel r args) zero x u e = absurd cc
put-part (Rel r args) (suc i) x u e = put-set args i x u e
put-part (Eq left right) zero x u e = absurd cc
put-part (Eq left right) (suc zero) x u e = let is : left ≡ x = cc in let s = ap nodes is in record { sum = omega (arith, s); within = omega (arith, s) }
put-part (Eq left right) (suc (suc zero)) x u e = let is : right ≡ x = cc in let s = ap nodes is in record { sum = omega (arith, s); within = omega (arith, s) }
put-part (Eq left right) (suc (suc (suc k))) x u e = absurd cc

module _ (new part : Term) where
  abbrev PutTerm : List ℕ → Term → Type 0
  PutTerm path t = (u : Term) × (replaced new path t ≡ Some u) × IsPut (nodes t) (nodes part) (nodes new) (nodes u)

  put-term : (path : List ℕ) (t : Term) → place path t ≡ Some part → PutTerm path t
  put-term [] t e = let is : t ≡ part = cc in let s = ap nodes is in (new, refl, record { sum = omega (arith, s); within = omega (arith, s) })
  put-term (k ∷ path) t e = at (member (args_of t) k) refl e (put-term path)
    where
      at : (o : Option Term) → member (args_of t) k ≡ o → option_and_then (place path) o ≡ Some part → ((x : Term) → place path x ≡ Some part → PutTerm path x) → PutTerm (k ∷ path) t
      at None m d g = absurd cc
      at (Some x) m d g =
          let h = g x d in (
            with_arg t k h.0,
            ap (λ o. option_map (with_arg t k) (option_and_then (replaced new path) o)) m ∙ ap (option_map (with_arg t k)) h.1,
            joined (nodes t) (nodes x) (nodes part) (nodes new) (nodes h.0) (nodes (with_arg t k h.0)) (put-arg t k x h.0 m) h.2,
          )

  -- the literal with another term in the place of that part
  pub put-literal : (path : List ℕ) (l : Literal) → place_in path l.atom ≡ Some part → IsPut (atom_weight l.atom) (nodes part) (nodes new) (atom_weight (replaced_literal new path l).atom)
  put-literal [] l e = absurd cc
  put-literal (k ∷ path) l e = at (member (parts_of l.atom) k) refl e
    where
      at : (o : Option Term) → member (parts_of l.atom) k ≡ o → option_and_then (place path) o ≡ Some part → IsPut (atom_weight l.atom) (nodes part) (nodes new) (atom_weight (replaced_literal new (k ∷ path) l).atom)
      at None m d = absurd cc
      at (Some x) m d =
          let h = put-term path x d in
          let made : replaced_in new (k ∷ path) l.atom ≡ Some (with_part l.atom k h.0) = ap (λ o. option_map (with_part l.atom k) (option_and_then (replaced new path) o)) m ∙ ap (option_map (with_part l.atom k)) h.1 in
          subst (λ (o : Option Atom). IsPut (atom_weight l.atom) (nodes part) (nodes new) (atom_weight (with_atom l o).atom)) (sym made)
          (joined (atom_weight l.atom) (nodes x) (nodes part) (nodes new) (nodes h.0) (atom_weight (with_part l.atom k h.0)) (put-part l.atom k x h.0 m) h.2)
