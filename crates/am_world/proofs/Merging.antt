-- Merging keeps what holds, and a literal without variables that is true holds as a clause.
use Rattle.std.proofs.Common.{◌≡◌, ◌∙◌, inl, inr, ℕ, true, false, List, [], ◌∷◌, IsTrue}
use Rattle.am_term.specs.declared.signature.Signature.{Signature}
use Rattle.am_term.specs.declared.term.Literal.{Literal}
use Rattle.am_term.specs.Same.{same_literal}
use Rattle.am_term.proofs.Alike.{same_literal-refl, same_literal-sound}
use Rattle.am_term.proofs.Tests.{or_left}
use Rattle.am_clause.specs.declared.clause.Clause.{Clause}
use Rattle.am_clause.specs.Bound.{without_repeats}
use Rattle.am_clause.specs.Distinct.{among}
use Rattle.am_clause.specs.Goals.{given_clause}
use Rattle.am_clause.specs.Variables.{Variable, same_variable, in_atom}
use Rattle.am_clause.proofs.Members.{any-distinct}
use Rattle.am_world.specs.Interpretation.{Interpretation}
use Rattle.am_world.specs.Value.{Assignment, literal_truth}
use Rattle.am_world.specs.ClauseTruth.{ClauseHolds}
use Rattle.am_world.specs.Holding.{HoldsAt, HoldsFor}
use Rattle.am_world.specs.Questions.{numbered}
use Rattle.am_world.proofs.Coincidence.{literal-agrees}

module _ (w : Interpretation) (ins : List ℕ) where
  pub merged-holds : (a : Assignment) (Q : List ℕ → Type 0) (c : Clause) → HoldsAt w ins Q a c → HoldsAt w ins Q a (without_repeats c)
  merged-holds a Q c h = elim h [
    | inl t ↦ inl (any-distinct same_literal same_literal-sound same_literal-refl (literal_truth w ins a) c.literals ∙ t)
    | inr s ↦ inr s
  ]

  pub merged-holds-for : (sig : Signature) (Q : List ℕ → Type 0) (c : Clause) → HoldsFor sig w ins Q c → HoldsFor sig w ins Q (without_repeats c)
  merged-holds-for sig Q c h a g = merged-holds a Q c (h a g)

  none-within : (vs : List Variable) → vs ≡ [] → (v : Variable) → among same_variable v vs ≡ true → ⊥
  none-within [] e v m = absurd cc
  none-within (x ∷ xs) e v m = absurd cc

  pub given-holds : (sig : Signature) (l : Literal) → in_atom l.atom ≡ [] → IsTrue (literal_truth w ins (numbered []) l) → ClauseHolds sig w ins (given_clause l)
  given-holds sig l e t a g = or_left (literal_truth w ins a l) false
      (literal-agrees w ins a (numbered []) l (λ v m. absurd (none-within (in_atom l.atom) e v m)) ∙ t)
