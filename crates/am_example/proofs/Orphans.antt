-- No sort of the example theory has a parent.
use Rattle.std.proofs.Common.{◌≡◌, ◌<◌, ℕ, zero, suc, Option, Some, None, List, replicate, slice_get, sym, ap, ◌∙◌}
use Rattle.am_term.specs.declared.id.SortId.{SortId}
use Rattle.am_example.specs.ExampleTheory.{te_parents}

childless : (n s : ℕ) (p : SortId) → slice_get (replicate n None) s ≡ Some (Some p) → p.0 < s
childless zero s p e = absurd cc
childless (suc n) zero p e = absurd cc
childless (suc n) (suc s) p e = absurd (none n s p e)
  where
    none : (n s : ℕ) (p : SortId) → slice_get (replicate n None) s ≡ Some (Some p) → ⊥
    none zero s p e = cc
    none (suc n) zero p e = cc
    none (suc n) (suc s) p e = none n s p e

pub orphans : (parents : List (Option SortId)) → parents ≡ te_parents → (s : ℕ) (p : SortId) → slice_get parents s ≡ Some (Some p) → p.0 < s
orphans parents is s p e = childless 12 s p (sym (ap (λ (ps : List (Option SortId)). slice_get ps s) is) ∙ e)
