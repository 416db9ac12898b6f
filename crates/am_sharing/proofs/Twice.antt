-- For tests: two arguments that are one id.
use Rattle.std.proofs.Common.{◌≡◌, ◌<◌, ℕ, zero, suc, List, [], ◌∷◌, Some, subst, slice_get, arith}
use Rattle.std.proofs.lemmas.Grind.{common_steps}
use Rattle.am_bank.specs.declared.id.TermId.{TermId}
use Rattle.am_bank.specs.Node.{numbers}

pub twice-below : (n : ℕ) (id : TermId) (ids : List TermId) → ids ≡ id ∷ id ∷ [] → id.0 < n → (k i : ℕ) → slice_get (numbers ids) k ≡ Some i → i < n
twice-below n id ids is h k i e = by_place k (subst (λ (js : List TermId). slice_get (numbers js) k ≡ Some i) is e)
  where
    by_place : (k : ℕ) → slice_get (numbers (id ∷ id ∷ [])) k ≡ Some i → i < n
    by_place zero e = let d : id.0 ≡ i = cc in omega arith
    by_place (suc zero) e = let d : id.0 ≡ i = cc in omega arith
    by_place (suc (suc k)) e = absurd cc

pub ruleset doubling = (common_steps, twice-below)
