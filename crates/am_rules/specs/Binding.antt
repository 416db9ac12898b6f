-- For the private contracts and the proofs of this crate alone: bindings of one parent and of two, by what their terms become.
use Rattle.std.specs.Prelude.{List, [], ◌∷◌, None, IsTrue}
use Rattle.am_term.specs.declared.id.SortId.{SortId}
use Rattle.am_term.specs.declared.signature.Signature.{Signature}
use Rattle.am_term.specs.declared.term.Term.{Term}
use Rattle.am_term.specs.Instance.{instance}
use Rattle.am_clause.specs.declared.clause.Clause.{Clause}
use Rattle.am_clause.specs.SortedClause.{are_bindings}

-- bindings of both, under which the instances are as the rule asks
pub record Binds (sig : Signature) (ins : List SortId) (p q : Clause) (Meets : (Term → Term) → (Term → Term) → Type 0) (xs ys : List Term) : Type 0 where
  pub left : IsTrue (are_bindings sig ins xs p)
  pub right : IsTrue (are_bindings sig ins ys q)
  pub meets : Meets (instance xs) (instance ys)

-- a rule of two parents takes two lists
abbrev pub OfTwo : (List Term → List Term → Type 0) → List (List Term) → Type 0
OfTwo Such [] = ⊥
OfTwo Such (xs ∷ []) = ⊥
OfTwo Such (xs ∷ ys ∷ []) = Such xs ys
OfTwo Such (xs ∷ ys ∷ zs ∷ ws) = ⊥

abbrev pub of_two : (List Term → List Term → Clause) → List (List Term) → Clause
of_two make [] = record { literals = []; answer = None }
of_two make (xs ∷ []) = record { literals = []; answer = None }
of_two make (xs ∷ ys ∷ ws) = make xs ys

-- bindings of one parent, and a rule of one parent
pub record BindsOne (sig : Signature) (ins : List SortId) (p : Clause) (Meets : (Term → Term) → Type 0) (xs : List Term) : Type 0 where
  pub whole : IsTrue (are_bindings sig ins xs p)
  pub meets : Meets (instance xs)

abbrev pub OfOne : (List Term → Type 0) → List (List Term) → Type 0
OfOne Such [] = ⊥
OfOne Such (xs ∷ []) = Such xs
OfOne Such (xs ∷ ys ∷ ws) = ⊥

abbrev pub of_one : (List Term → Clause) → List (List Term) → Clause
of_one make [] = record { literals = []; answer = None }
of_one make (xs ∷ ws) = make xs
