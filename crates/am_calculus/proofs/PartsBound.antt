-- Parts of instances are instances of parts, and equal parts have as many nodes.
use Rattle.std.proofs.Common.{◌≡◌, ◌≢◌, ◌∙◌, ℕ, zero, suc, false, refl, sym, ap, List, [], ◌∷◌, map, min, Option, Some, None, option_map, option_and_then}
use Rattle.std.specs.List.{sum_by}
use Rattle.std.proofs.lemmas.Bool.Decides.{nat_tests}
use Rattle.std.proofs.lemmas.Grind.{common_steps}
use Rattle.am_term.specs.Induct.{term_cases}
use Rattle.am_term.specs.Instance.{instance, instances, instance_atom, instance_literal, instance-App}
use Rattle.am_term.specs.Parts.{parts_of, place_in}
use Rattle.am_term.specs.Place.{member, args_of, place, args_of-Var, args_of-In, args_of-App}
use Rattle.am_term.specs.Same.{same_term, same_terms, same_atom}
use Rattle.am_term.specs.Weight.{nodes}
use Rattle.am_term.specs.declared.term.Atom.{Atom}
use Rattle.am_term.specs.declared.term.Atom.TheVariants.{Rel, Eq}
use Rattle.am_term.specs.declared.term.Literal.{Literal}
use Rattle.am_term.specs.declared.term.Term.{Term}
use Rattle.am_term.specs.declared.term.Term.TheVariants.{Var, In}
use Rattle.am_term.proofs.Alike.{same_term-sound, same_terms-sound, same_atom-sound}
use Rattle.am_term.proofs.Tests.{fails}
use Rattle.am_clause.specs.Rules.{part_at, side_of, side_at}
use Rattle.am_clause.specs.Size.{atom_weight}
use Rattle.am_clause.specs.declared.row.Side.{Side}
use Rattle.am_clause.specs.declared.row.Side.TheVariants.{Left, Right}
use Rattle.am_calculus.proofs.Lists.{member-map}

-- ---- parts of instances

pub none-there : {A B : Type 0} (ts : List B) (k : ℕ) (x : B) → ts ≡ [] → member ts k ≡ Some x → A
none-there [] zero x e m = absurd cc
none-there [] (suc k) x e m = absurd cc
none-there (t ∷ ts) k x e m = absurd cc

module _ (xs : List Term) where
  args-bound : (t : Term) (k : ℕ) (u : Term) → member (args_of t) k ≡ Some u → member (args_of (instance xs t)) k ≡ Some (instance xs u)
  args-bound = term_cases (λ t. (k : ℕ) (u : Term) → member (args_of t) k ≡ Some u → member (args_of (instance xs t)) k ≡ Some (instance xs u))
      (λ n s k u e. none-there (args_of (Var n s)) k u (args_of-Var n s) e)
      (λ j k u e. none-there (args_of (In j)) k u (args_of-In j) e)
      (λ f ts k u e. ap (λ us. member us k) (ap args_of (instance-App xs f ts) ∙ args_of-App f (instances xs ts))
      ∙ (member-map (instance xs) ts k ∙ ap (option_map (instance xs)) (ap (λ us. member us k) (sym (args_of-App f ts)) ∙ e)))

  place-bound : (path : List ℕ) (t u : Term) → place path t ≡ Some u → place path (instance xs t) ≡ Some (instance xs u)
  place-bound [] t u e = let is : t ≡ u = cc in ap (λ x. Some (instance xs x)) is
  place-bound (k ∷ path) t u e = at (member (args_of t) k) refl e (place-bound path)
    where
      at : (o : Option Term) → member (args_of t) k ≡ o → option_and_then (place path) o ≡ Some u → ((x y : Term) → place path x ≡ Some y → place path (instance xs x) ≡ Some (instance xs y))
          → option_and_then (place path) (member (args_of (instance xs t)) k) ≡ Some (instance xs u)
      at None m d g = absurd cc
      at (Some x) m d g = ap (option_and_then (place path)) (args-bound t k x m) ∙ g x u d

  parts-bound : (a : Atom) → parts_of (instance_atom xs a) ≡ map (instance xs) (parts_of a)
  parts-bound (Rel r args) = refl
  parts-bound (Eq l r) = refl

  part-bound : (path : List ℕ) (a : Atom) (u : Term) → place_in path a ≡ Some u → place_in path (instance_atom xs a) ≡ Some (instance xs u)
  part-bound [] a u e = absurd cc
  part-bound (k ∷ path) a u e = at (member (parts_of a) k) refl e
    where
      at : (o : Option Term) → member (parts_of a) k ≡ o → option_and_then (place path) o ≡ Some u → option_and_then (place path) (member (parts_of (instance_atom xs a)) k) ≡ Some (instance xs u)
      at None m d = absurd cc
      at (Some x) m d = ap (option_and_then (place path)) (ap (λ us. member us k) (parts-bound a) ∙ (member-map (instance xs) (parts_of a) k ∙ ap (option_map (instance xs)) m)) ∙ place-bound path x u d

  -- a part that the literal has, its instance has as instance
  pub part-at-bound : (path : List ℕ) (o : Option Literal) (u : Term) → part_at path o ≡ Some u → part_at path (option_map (instance_literal xs) o) ≡ Some (instance xs u)
  part-at-bound path None u e = absurd cc
  part-at-bound path (Some l) u e = part-bound path l.atom u e

  side-bound : (side : Side) (a : Atom) → side_of side (instance_atom xs a) ≡ option_map (instance xs) (side_of side a)
  side-bound Left (Rel r args) = refl
  side-bound Right (Rel r args) = refl
  side-bound Left (Eq l r) = refl
  side-bound Right (Eq l r) = refl

  -- the side of an instance is the instance of the side
  pub side-at-bound : (side : Side) (o : Option Literal) → side_at side (option_map (instance_literal xs) o) ≡ option_map (instance xs) (side_at side o)
  side-at-bound side None = refl
  side-at-bound side (Some l) = side-bound side l.atom

-- ---- what has other sizes differs

pub terms-differ : (t u : Term) → min (nodes t) 16777217 ≢ min (nodes u) 16777217 → same_term t u ≡ false
terms-differ t u h = fails (same_term t u) (λ e. h (ap (λ x. min (nodes x) 16777217) (same_term-sound t u e)))

pub lists-differ : (ts us : List Term) → min (sum_by nodes ts) 16777217 ≢ min (sum_by nodes us) 16777217 → same_terms ts us ≡ false
lists-differ ts us h = fails (same_terms ts us) (λ e. h (ap (λ xs. min (sum_by nodes xs) 16777217) (same_terms-sound ts us e)))

pub atoms-differ : (a b : Atom) → min (atom_weight a) 16777217 ≢ min (atom_weight b) 16777217 → same_atom a b ≡ false
atoms-differ a b h = fails (same_atom a b) (λ e. h (ap (λ x. min (atom_weight x) 16777217) (same_atom-sound a b e)))

pub ruleset comparing = (common_steps, nat_tests, part-at-bound, terms-differ, lists-differ, atoms-differ)
