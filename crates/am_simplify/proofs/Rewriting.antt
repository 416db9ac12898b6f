-- Walking over a literal: what stands where, and the first rewriting of what is left.
use Rattle.std.proofs.Common.{◌≡◌, ◌∙◌, ◌++◌, ◌+◌, ℕ, suc, refl, sym, ap, subst, arith, Option, Some, None, List, [], ◌∷◌, option_and_then, slice_get}
use Rattle.std.proofs.lemmas.Grind.{common_steps}
use Rattle.am_term.specs.Parts.{parts_of}
use Rattle.am_term.specs.Place.{args_of, args_of-App, member, place}
use Rattle.am_term.specs.Weight.{nodes_laws}
use Rattle.am_term.specs.declared.id.SymId.{SymId}
use Rattle.am_term.specs.declared.term.Atom.TheVariants.{Rel}
use Rattle.am_term.specs.declared.term.Literal.{Literal}
use Rattle.am_term.specs.declared.term.Term.{Term}
use Rattle.am_term.specs.declared.term.Term.TheVariants.{App}
use Rattle.am_term.specs.declared.term.Term.TheViews.{the_lemmas}
use Rattle.am_term.proofs.Instances.{nodes-positive}
use Rattle.am_term.proofs.Parts.{place-append}
use Rattle.am_clause.specs.Rules.{part_at}
use Rattle.am_clause.specs.declared.clause.Clause.{Clause}
use Rattle.am_simplify.specs.Numbering.{find_map, or_else}
use Rattle.am_simplify.specs.Places.{places_laws}
use Rattle.am_simplify.specs.Standing.{AreArguments, AreLiterals, IsPartAt}

pub found-append : {A B : Type 0} (f : A → Option B) (xs ys : List A) → find_map f (xs ++ ys) ≡ or_else (find_map f xs) (find_map f ys)
found-append f [] ys = refl
found-append {A = A} {B = B} f (x ∷ xs) ys = by (f x) (found-append f xs ys)
  where
    by : (o : Option B) → find_map f (xs ++ ys) ≡ or_else (find_map f xs) (find_map f ys) → or_else o (find_map f (xs ++ ys)) ≡ or_else (or_else o (find_map f xs)) (find_map f ys)
    by None e = e
    by (Some y) e = refl

-- the end of a path is there
whole : (o : Option Term) → option_and_then (place []) o ≡ o
whole None = refl
whole (Some t) = refl

one-down : (path : List ℕ) (k : ℕ) (u t : Term) → place path u ≡ Some t → place (path ++ k ∷ []) u ≡ member (args_of t) k
one-down path k u t e = place-append path (k ∷ []) u ∙ (ap (option_and_then (place (k ∷ []))) e ∙ whole (member (args_of t) k))

step-down : (a : Option Literal) (path : List ℕ) (k : ℕ) (t : Term) → part_at path a ≡ Some t → part_at (path ++ k ∷ []) a ≡ member (args_of t) k
step-down None path k t e = absurd cc
step-down (Some l) [] k t e = absurd cc
step-down (Some l) (j ∷ path) k t e = by (member (parts_of l.atom) j) e
  where
    by : (o : Option Term) → option_and_then (place path) o ≡ Some t → option_and_then (place (path ++ k ∷ [])) o ≡ member (args_of t) k
    by None e = absurd cc
    by (Some u) e = one-down path k u t e

module _ (c : Clause) (i : ℕ) (path : List ℕ) where
  arguments-from : (k : ℕ) (ts : List Term) → ((n : ℕ) (t : Term) → slice_get ts n ≡ Some t → IsPartAt c i (path ++ (k + n) ∷ []) t) → AreArguments c i path k ts
  arguments-from k [] h = tt
  arguments-from k (t ∷ ts) h = (
    subst (λ m. IsPartAt c i (path ++ m ∷ []) t) (omega arith) (h 0 t refl),
    arguments-from (k + 1) ts (λ n u e. subst (λ m. IsPartAt c i (path ++ m ∷ []) u) (omega arith) (h (suc n) u e)),
  )

  pub below : (f : SymId) (args : List Term) → IsPartAt c i path (App f args) → AreArguments c i path 1 args
  below f args s = arguments-from 1 args at
    where
      at : (n : ℕ) (t : Term) → slice_get args n ≡ Some t → IsPartAt c i (path ++ (1 + n) ∷ []) t
      at n t e =
          let there : IsPartAt c i (path ++ suc n ∷ []) t = step-down (member c.literals i) path (suc n) (App f args) s ∙ (ap (λ ts. slice_get ts n) (args_of-App f args) ∙ e) in
          subst (λ m. IsPartAt c i (path ++ m ∷ []) t) (omega arith) there

pub parts-stand : (c : Clause) (i : ℕ) (l : Literal) → member c.literals i ≡ Some l → AreArguments c i [] 1 (parts_of l.atom)
parts-stand c i l is = arguments-from c i [] 1 (parts_of l.atom) at
  where
    at : (n : ℕ) (t : Term) → slice_get (parts_of l.atom) n ≡ Some t → IsPartAt c i ((1 + n) ∷ []) t
    at n t e =
        let there : IsPartAt c i (suc n ∷ []) t = ap (part_at (suc n ∷ [])) is ∙ (whole (slice_get (parts_of l.atom) n) ∙ e) in
        let one : suc n ≡ 1 + n = omega arith in
        subst (λ m. IsPartAt c i (m ∷ []) t) (one) there

pub relation-stands : (c : Clause) (i : ℕ) (l : Literal) (r : SymId) (args ts : List Term) → member c.literals i ≡ Some l → l.atom ≡ Rel r args → ts ≡ args → AreArguments c i [] 1 ts
relation-stands c i l r args ts is atom all = subst (AreArguments c i [] 1) (ap parts_of atom ∙ sym all) (parts-stand c i l is)

literals-from : (c : Clause) (i : ℕ) (ls : List Literal) → ((n : ℕ) (l : Literal) → slice_get ls n ≡ Some l → member c.literals (i + n) ≡ Some l) → AreLiterals c i ls
literals-from c i [] h = tt
literals-from c i (l ∷ ls) h = (
  subst (λ m. member c.literals m ≡ Some l) (omega arith) (h 0 l refl),
  literals-from c (i + 1) ls (λ n m e. subst (λ j. member c.literals j ≡ Some m) (omega arith) (h (suc n) m e)),
)

pub literals-stand : (c : Clause) → AreLiterals c 1 c.literals
literals-stand c = literals-from c 1 c.literals at
  where
    at : (n : ℕ) (l : Literal) → slice_get c.literals n ≡ Some l → member c.literals (1 + n) ≡ Some l
    at n l e = let one : suc n ≡ 1 + n = omega arith in subst (λ m. member c.literals m ≡ Some l) (one) e

pub ruleset rewriting = (common_steps, the_lemmas, places_laws, nodes_laws, nodes-positive, found-append, below)

pub ruleset starting = (common_steps, found-append, parts-stand, literals-stand)
