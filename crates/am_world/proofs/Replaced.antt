-- A part of an atom or a literal replaced by one of the same value.
use Rattle.std.proofs.Common.{◌≡◌, ◌∙◌, ◌==◌, ℕ, zero, suc, Bool, true, not, refl, sym, ap, if◌then◌else◌, List, [], ◌∷◌, set, slice_get, Option, Some, None, option_map, option_and_then}
use Rattle.am_term.specs.declared.term.Term.{Term}
use Rattle.am_term.specs.declared.term.Atom.{Atom}
use Rattle.am_term.specs.declared.term.Atom.TheVariants.{Rel, Eq}
use Rattle.am_term.specs.declared.term.Literal.{Literal}
use Rattle.am_term.specs.Place.{member, with_member, place, replaced}
use Rattle.am_term.proofs.Alike.{same_term-sound}
use Rattle.am_world.specs.Interpretation.{Interpretation}
use Rattle.am_world.specs.Value.{Assignment, value, values, atom_truth, literal_truth}
use Rattle.am_world.proofs.Replacing.{value-replaced}
use Rattle.am_term.specs.Parts.{parts_of, with_part, place_in, replaced_in, with_atom, replaced_literal}
use Rattle.am_clause.specs.Rules.{are_one}

module _ (w : Interpretation) (ins : List ℕ) (a : Assignment) where
  values-set : (ts : List Term) (i : ℕ) (old now : Term) → slice_get ts i ≡ Some old → value w ins a now ≡ value w ins a old → values w ins a (set ts i now) ≡ values w ins a ts
  values-set [] i old now at e = absurd cc
  values-set (t ∷ ts) zero old now at e = let same : t ≡ old = cc in ap (λ n. n ∷ values w ins a ts) (e ∙ ap (value w ins a) (sym same))
  values-set (t ∷ ts) (suc i) old now at e = ap (λ ns. value w ins a t ∷ ns) (values-set ts i old now at e)

  values-with : (ts : List Term) (k : ℕ) (old now : Term) → member ts k ≡ Some old → value w ins a now ≡ value w ins a old → values w ins a (with_member ts k now) ≡ values w ins a ts
  values-with ts zero old now at e = refl
  values-with ts (suc i) old now at e = values-set ts i old now at e

  -- another argument or side of the same value
  part-same : (x : Atom) (k : ℕ) (old now : Term) → member (parts_of x) k ≡ Some old → value w ins a now ≡ value w ins a old → atom_truth w ins a (with_part x k now) ≡ atom_truth w ins a x
  part-same (Rel r args) k old now at e = ap (w.rel r) (values-with args k old now at e)
  part-same (Eq left right) zero old now at e = refl
  part-same (Eq left right) (suc zero) old now at e = let same : left ≡ old = cc in ap (λ n. n == value w ins a right) (e ∙ ap (value w ins a) (sym same))
  part-same (Eq left right) (suc (suc zero)) old now at e = let same : right ≡ old = cc in ap (λ n. value w ins a left == n) (e ∙ ap (value w ins a) (sym same))
  part-same (Eq left right) (suc (suc (suc k))) old now at e = absurd cc

  some_atom : (x y : Atom) → Some x ≡ Some y → x ≡ y
  some_atom x y e = cc

  module _ (new part : Term) (same : value w ins a new ≡ value w ins a part) where
    atom-at : (path : List ℕ) (x y : Atom) (k : ℕ) (t : Term) → member (parts_of x) k ≡ Some t → place path t ≡ Some part → (o : Option Term) → replaced new path t ≡ o → option_map (with_part x k) o ≡ Some y → atom_truth w ins a y ≡ atom_truth w ins a x
    atom-at path x y k t at is None e f = absurd cc
    atom-at path x y k t at is (Some u) e f =
        ap (atom_truth w ins a) (sym (some_atom (with_part x k u) y f)) ∙ part-same x k t u at (value-replaced w ins a new part same path t u is e)

    atom-below : (path : List ℕ) (x y : Atom) (k : ℕ) (o : Option Term) → member (parts_of x) k ≡ o → option_and_then (place path) o ≡ Some part → option_map (with_part x k) (option_and_then (replaced new path) o) ≡ Some y → atom_truth w ins a y ≡ atom_truth w ins a x
    atom-below path x y k None at is f = absurd cc
    atom-below path x y k (Some t) at is f = atom-at path x y k t at is (replaced new path t) refl f

    pub atom-replaced : (path : List ℕ) (x y : Atom) → place_in path x ≡ Some part → replaced_in new path x ≡ Some y → atom_truth w ins a y ≡ atom_truth w ins a x
    atom-replaced [] x y is f = absurd cc
    atom-replaced (k ∷ path) x y is f = atom-below path x y k (member (parts_of x) k) refl is f

    with-atom : (path : List ℕ) (l : Literal) (o : Option Atom) → place_in path l.atom ≡ Some part → replaced_in new path l.atom ≡ o → literal_truth w ins a (with_atom l o) ≡ literal_truth w ins a l
    with-atom path l None is e = refl
    with-atom path l (Some y) is e = ap (λ (b : Bool). if l.positive then b else not b) (atom-replaced path l.atom y is e)

    pub literal-replaced : (path : List ℕ) (l : Literal) → place_in path l.atom ≡ Some part → literal_truth w ins a (replaced_literal new path l) ≡ literal_truth w ins a l
    literal-replaced path l is = with-atom path l (replaced_in new path l.atom) is refl

  -- a term of the value of the part that stands there
  pub side-replaced : (side other : Term) → value w ins a side ≡ value w ins a other → (path : List ℕ) (l : Literal) (o : Option Term) → place_in path l.atom ≡ o → are_one (Some side) o ≡ true → literal_truth w ins a (replaced_literal other path l) ≡ literal_truth w ins a l
  side-replaced side other same path l None is e = absurd cc
  side-replaced side other same path l (Some part) is e = literal-replaced other part (sym same ∙ ap (value w ins a) (same_term-sound side part e)) path l is
