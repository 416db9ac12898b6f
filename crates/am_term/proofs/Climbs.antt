-- Going up from a sort to its root.
use Rattle.std.proofs.Common.{◌≡◌, ◌∙◌, true, false, refl, ap, Some, None}
use Rattle.std.proofs.lemmas.Grind.{common_steps}
use Rattle.std.proofs.lemmas.Bool.Decides.{nat_tests}
use Rattle.am_term.specs.declared.id.SortId.{SortId}
use Rattle.am_term.specs.declared.signature.Signature.{Signature}
use Rattle.am_term.specs.Sorts.{same_sort, parent, at_parent, fits, root}
use Rattle.am_term.proofs.Forest.{fits-step, root-step, fits-same, fits-trans, fits-antisym, fits-comparable}

-- one step up, where the sorts differ
pub fits-up : (sig : Signature) (s t p : SortId) → parent sig s ≡ Some p → same_sort s t ≡ false → fits sig s t ≡ fits sig p t
fits-up sig s t p is e = fits-step sig s t ∙ rw (is, e) refl

-- no further step
pub fits-top : (sig : Signature) (s t : SortId) → parent sig s ≡ None → same_sort s t ≡ false → fits sig s t ≡ false
fits-top sig s t is e = fits-step sig s t ∙ rw (is, e) refl

-- found
pub fits-here : (sig : Signature) (s t : SortId) → same_sort s t ≡ true → fits sig s t ≡ true
fits-here sig s t e = fits-step sig s t ∙ rw e refl

pub root-up : (sig : Signature) (s p : SortId) → parent sig s ≡ Some p → root sig s ≡ root sig p
root-up sig s p is = root-step sig s ∙ ap (λ o. at_parent o (root sig) s) is

pub root-top : (sig : Signature) (s : SortId) → parent sig s ≡ None → root sig s ≡ s
root-top sig s is = root-step sig s ∙ ap (λ o. at_parent o (root sig) s) is

pub ruleset climbs = (common_steps, nat_tests, fits-up, fits-top, fits-here, root-up, root-top)

pub ruleset laws_of_fits = (fits-step, fits-same, fits-trans, fits-antisym, fits-comparable)
