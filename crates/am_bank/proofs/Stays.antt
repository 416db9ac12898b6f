-- What is over old ids stands for what it stood for, where a bank grows.
use Rattle.std.proofs.Common.{◌≡◌, ℕ, List, [], ◌∷◌, Option, Some, None, refl, map, option_map, option_and_then}
use Rattle.am_term.specs.declared.term.Atom.TheVariants as atom
use Rattle.am_term.specs.declared.term.Literal.{Literal}
use Rattle.am_clause.specs.declared.clause.Clause.{Clause}
use Rattle.am_clause.specs.declared.row.Made.{Made}
use Rattle.am_bank.specs.declared.id.TermId.{TermId}
use Rattle.am_bank.specs.declared.shared.SharedAtom.{SharedAtom}
use Rattle.am_bank.specs.declared.shared.SharedAtom.TheVariants.{Rel, Eq}
use Rattle.am_bank.specs.declared.shared.SharedLiteral.{SharedLiteral}
use Rattle.am_bank.specs.declared.shared.SharedClause.{SharedClause}
use Rattle.am_bank.specs.declared.shared.SharedMade.{SharedMade}
use Rattle.am_bank.specs.declared.shared.SharedSubst.{SharedSubst}
use Rattle.am_bank.specs.Node.{Shared}
use Rattle.am_bank.specs.Bank.{Grows}
use Rattle.am_bank.specs.Trees.{tree}
use Rattle.am_bank.specs.Stands.{all_there, relation_of, terms_of, atom_of, literal_of, answer_of, clause_of, made_of, bindings_of}
use Rattle.am_bank.proofs.Trees.{tree-grown}

-- what is there in the one is there in the other
abbrev pub Stays : {A : Type 0} → Option A → Option A → Type 0
Stays {A = A} o p = (x : A) → o ≡ Some x → p ≡ Some x

stays-then : {A B : Type 0} → (f g : A → Option B) (o p : Option A) → Stays o p → ((x : A) → Stays (f x) (g x)) → Stays (option_and_then f o) (option_and_then g p)
stays-then f g None p stays each y e = cc
stays-then f g (Some x) p stays each y e = rw (stays x refl) (each x y e)

stays-map : {A B : Type 0} → (f : A → B) (o p : Option A) → Stays o p → Stays (option_map f o) (option_map f p)
stays-map f None p stays y e = cc
stays-map f (Some x) p stays y e = rw (stays x refl) e

stays-all : {X A : Type 0} → (f g : X → Option A) (xs : List X) → ((x : X) → Stays (f x) (g x)) → Stays (all_there (map f xs)) (all_there (map g xs))
stays-all f g [] each = λ y e. e
stays-all f g (x ∷ xs) each =
    stays-then (λ z. option_map (λ zs. z ∷ zs) (all_there (map f xs))) (λ z. option_map (λ zs. z ∷ zs) (all_there (map g xs))) (f x) (g x) (each x)
    (λ z. stays-map (λ zs. z ∷ zs) (all_there (map f xs)) (all_there (map g xs)) (stays-all f g xs each))

module _ (old new : List Shared) (grows : Grows old new) where
  pub tree-stays : (i : ℕ) → Stays (tree old i) (tree new i)
  tree-stays i t e = tree-grown old new i t grows e

  pub terms-stay : (ids : List TermId) → Stays (terms_of old ids) (terms_of new ids)
  terms-stay ids = stays-all (λ (i : TermId). tree old i.0) (λ (i : TermId). tree new i.0) ids (λ i. tree-stays i.0)

  pub atom-stays : (a : SharedAtom) → Stays (atom_of old a) (atom_of new a)
  atom-stays (Rel id) = stays-then relation_of relation_of (tree old id.0) (tree new id.0) (tree-stays id.0) (λ t x e. e)
  atom-stays (Eq left right) =
      stays-then (λ l. option_map (λ r. atom.Eq l r) (tree old right.0)) (λ l. option_map (λ r. atom.Eq l r) (tree new right.0)) (tree old left.0) (tree new left.0) (tree-stays left.0)
      (λ l. stays-map (λ r. atom.Eq l r) (tree old right.0) (tree new right.0) (tree-stays right.0))

  pub literal-stays : (l : SharedLiteral) → Stays (literal_of old l) (literal_of new l)
  literal-stays l = stays-map (λ a. let m : Literal = record { positive = l.positive; atom = a } in m) (atom_of old l.atom) (atom_of new l.atom) (atom-stays l.atom)

  pub answer-stays : (a : Option (List TermId)) → Stays (answer_of old a) (answer_of new a)
  answer-stays None = λ x e. e
  answer-stays (Some ids) = stays-map Some (terms_of old ids) (terms_of new ids) (terms-stay ids)

  pub clause-stays : (c : SharedClause) → Stays (clause_of old c) (clause_of new c)
  clause-stays c =
      stays-then
      (λ ls. option_map (λ a. let d : Clause = record { literals = ls; answer = a } in d) (answer_of old c.answer))
      (λ ls. option_map (λ a. let d : Clause = record { literals = ls; answer = a } in d) (answer_of new c.answer))
      (all_there (map (literal_of old) c.literals)) (all_there (map (literal_of new) c.literals))
      (stays-all (literal_of old) (literal_of new) c.literals literal-stays)
      (λ ls. stays-map (λ a. let d : Clause = record { literals = ls; answer = a } in d) (answer_of old c.answer) (answer_of new c.answer) (answer-stays c.answer))

  pub made-stays : (m : SharedMade) → Stays (made_of old m) (made_of new m)
  made-stays m =
      stays-then
      (λ c. option_map (λ tss. let d : Made = record { clause = c; with = tss } in d) (all_there (map (terms_of old) m.with)))
      (λ c. option_map (λ tss. let d : Made = record { clause = c; with = tss } in d) (all_there (map (terms_of new) m.with)))
      (clause_of old m.clause) (clause_of new m.clause) (clause-stays m.clause)
      (λ c. stays-map (λ tss. let d : Made = record { clause = c; with = tss } in d) (all_there (map (terms_of old) m.with)) (all_there (map (terms_of new) m.with))
      (stays-all (terms_of old) (terms_of new) m.with terms-stay))

  pub bindings-stay : (s : SharedSubst) → Stays (bindings_of old s) (bindings_of new s)
  bindings-stay s =
      stays-all (λ (p : ℕ × TermId). option_map (λ t. (p.0, t)) (tree old p.1.0)) (λ (p : ℕ × TermId). option_map (λ t. (p.0, t)) (tree new p.1.0)) s.0
      (λ p. stays-map (λ t. (p.0, t)) (tree old p.1.0) (tree new p.1.0) (tree-stays p.1.0))
