-- Words of private contracts: what tables hold about ids that were gone over.
use Rattle.std.specs.Prelude.{◌≡◌, ◌<◌, ℕ, Bool, true, false, List, Option, Some, length}
use Rattle.am_unify.specs.Occurrence.{number_occurs}
use Rattle.am_unify.specs.Substitution.{Substitution, apply}
use Rattle.am_bank.specs.declared.id.TermId.{TermId}
use Rattle.am_bank.specs.Node.{Shared}
use Rattle.am_sharing.specs.Terms.{term_at}

-- an id that is held for another one stands for what the other's term becomes
pub record AreImages (ns : List Shared) (θ : Substitution) (images : ℕ → Option TermId) : Type 0 where
  pub there : (i : ℕ) (j : TermId) → images i ≡ Some j → i < length ns
  pub inside : (i : ℕ) (j : TermId) → images i ≡ Some j → j.0 < length ns
  pub are : (i : ℕ) (j : TermId) → images i ≡ Some j → term_at ns j.0 ≡ apply θ (term_at ns i)

-- no variable of the number stands in the terms of the ids that were gone over
pub record AllLack (ns : List Shared) (n : ℕ) (seen : ℕ → Bool) : Type 0 where
  pub lack : (i : ℕ) → seen i ≡ true → number_occurs n (term_at ns i) ≡ false
