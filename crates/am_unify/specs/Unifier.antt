-- Unifiers, most general ones, and when two of these differ by a renaming.
use Rattle.std.specs.Prelude.{◌≡◌, ◌<◌, ℕ, Option, Some, None, List, length, IsTrue, is_some, option_map}
use Rattle.std.specs.List.{AllByRecursion}
use Rattle.am_term.specs.declared.id.SortId.{SortId}
use Rattle.am_term.specs.declared.signature.Signature.{Signature}
use Rattle.am_term.specs.declared.term.Term.{Term}
use Rattle.am_term.specs.declared.term.Term.TheVariants.{Var}
use Rattle.am_term.specs.Sorting.{sort_of, fits_place}
use Rattle.am_unify.specs.declared.substitution.Subst.{Subst}
use Rattle.am_unify.specs.Occurrence.{number_occurs, number_occurs_in, has_given_sorts}
use Rattle.am_unify.specs.Substitution.{Substitution, apply, listed, IsRising}

-- the term is well sorted, and its variables have the sorts given for their numbers
pub record IsSortedUnder (sig : Signature) (ins : List SortId) (sorts : ℕ → SortId) (t : Term) : Type 0 where
  pub sorted : IsTrue (is_some (sort_of sig ins t))
  pub follows : IsTrue (has_given_sorts sorts t)

-- so are both sides of each pair; thus variables of one number have one sort
abbrev pub AreSortedUnder : Signature → List SortId → (ℕ → SortId) → List (Term × Term) → Type 0
AreSortedUnder sig ins sorts ps = AllByRecursion (λ p. IsSortedUnder sig ins sorts p.0 × IsSortedUnder sig ins sorts p.1) ps

-- each variable, having a sort of the signature, becomes a well-sorted term whose sort fits it
abbrev pub IsFitting : Signature → List SortId → (ℕ → SortId) → Substitution → Type 0
IsFitting sig ins sorts θ = (n : ℕ) → (sorts n).0 < length sig.sorts → IsTrue (fits_place sig (sort_of sig ins (θ n (sorts n))) (sorts n))

-- both sides of each pair become one
abbrev pub Unifies : Substitution → List (Term × Term) → Type 0
Unifies θ ps = AllByRecursion (λ p. apply θ p.0 ≡ apply θ p.1) ps

-- such terms for the variables make each pair one
pub record IsUnifier (sig : Signature) (ins : List SortId) (sorts : ℕ → SortId) (θ : Substitution) (ps : List (Term × Term)) : Type 0 where
  pub fitting : IsFitting sig ins sorts θ
  pub unifies : Unifies θ ps

abbrev pub HasNoUnifier : Signature → List SortId → (ℕ → SortId) → List (Term × Term) → Type 0
HasNoUnifier sig ins sorts ps = (θ : Substitution) → IsUnifier sig ins sorts θ ps → ⊥

-- a unifier over variables of their own sorts, through which every unifier factors
pub record IsMostGeneral (sig : Signature) (ins : List SortId) (sorts : ℕ → SortId) (σ : Substitution) (ps : List (Term × Term)) : Type 0 where
  pub unifier : IsUnifier sig ins sorts σ ps
  pub follows : (n : ℕ) → IsTrue (has_given_sorts sorts (σ n (sorts n)))
  pub factors : (θ : Substitution) → IsUnifier sig ins sorts θ ps → (n : ℕ) → apply θ (σ n (sorts n)) ≡ θ n (sorts n)

-- a variable of the pairs is bound, and in its term stand only variables of the pairs
pub record IsWithin (ps : List (Term × Term)) (b : ℕ × Term) : Type 0 where
  pub bound : IsTrue (number_occurs_in b.0 ps)
  pub inner : (n : ℕ) → IsTrue (number_occurs n b.1) → IsTrue (number_occurs_in n ps)

-- a most general unifier as bindings in order of their numbers, of and by variables of the pairs
pub record IsSolution (sig : Signature) (ins : List SortId) (sorts : ℕ → SortId) (bs : List (ℕ × Term)) (ps : List (Term × Term)) : Type 0 where
  pub most_general : IsMostGeneral sig ins sorts (listed bs) ps
  pub rising : IsRising bs
  pub within : AllByRecursion (IsWithin ps) bs

-- an answer: no unifier, or a solution
abbrev pub IsSolved : Signature → List SortId → (ℕ → SortId) → List (Term × Term) → Option (List (ℕ × Term)) → Type 0
IsSolved sig ins sorts ps None = HasNoUnifier sig ins sorts ps
IsSolved sig ins sorts ps (Some bs) = IsSolution sig ins sorts bs ps

-- what is answered as one: the bindings, or none
abbrev pub bindings_answered : Option Subst → Option (List (ℕ × Term))
bindings_answered o = option_map (λ (s : Subst). s.0) o

-- The terms of τ are those of σ, with each of their variables replaced by another of its sort, and back.
pub record IsRenamed (sig : Signature) (sorts : ℕ → SortId) (σ τ : Substitution) : Type 0 where
  pub there : (n : ℕ) → τ n (sorts n) ≡ apply τ (σ n (sorts n))
  pub variable : (n m : ℕ) → (sorts n).0 < length sig.sorts → IsTrue (number_occurs m (σ n (sorts n))) → (k : ℕ) × ((τ m (sorts m) ≡ Var k (sorts m)) × (σ k (sorts m) ≡ Var m (sorts m)))
