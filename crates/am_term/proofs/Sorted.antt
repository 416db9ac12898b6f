-- Going over the arguments of a term and their places.
use Rattle.std.proofs.Common.{◌≡◌, ◌≢◌, ◌&&◌, suc, Bool, true, false, refl, ap, ◌∙◌, List, [], ◌∷◌, length}
use Rattle.std.proofs.lemmas.Grind.{common_steps}
use Rattle.std.proofs.lemmas.Bool.Decides.{nat_tests}
use Rattle.am_term.specs.declared.id.SortId.{SortId}
use Rattle.am_term.specs.declared.signature.Signature.{Signature}
use Rattle.am_term.specs.declared.term.Term.{Term}
use Rattle.am_term.specs.declared.term.Term.TheViews.{the_lemmas}
use Rattle.am_term.specs.Sorting.{sort_laws, fit_places, fits_place, sort_of, sorts_of}

-- other counts don't fit
pub fit_places-count : (sig : Signature) (ins : List SortId) (ts : List Term) (ps : List SortId) → length ts ≢ length ps → fit_places sig (sorts_of sig ins ts) ps ≡ false
fit_places-count sig ins [] [] h = absurd (h refl)
fit_places-count sig ins [] (p ∷ ps) h = refl
fit_places-count sig ins (t ∷ ts) [] h = refl
fit_places-count sig ins (t ∷ ts) (p ∷ ps) h = ap (λ b. fits_place sig (sort_of sig ins t) p && b) (fit_places-count sig ins ts ps (λ e. h (ap suc e))) ∙ and_false (fits_place sig (sort_of sig ins t) p)
  where
    and_false : (b : Bool) → (b && false) ≡ false
    and_false true = refl
    and_false false = refl

pub ruleset sorting = (common_steps, nat_tests, the_lemmas, sort_laws, fit_places-count)
