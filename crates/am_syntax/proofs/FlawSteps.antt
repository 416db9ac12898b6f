-- What is wrong with a term is so with its head or with one of its arguments.
use Rattle.std.proofs.Common.{◌≡◌, ℕ, ◌<◌, ◌≤◌, ◌+◌, false, List, [], ◌∷◌, length, min, zero, suc, get_or, drop, add-one, drop-cons, Option, refl, arith}
use Rattle.std.specs.Prelude.{◌||◌}
use Rattle.std.proofs.lemmas.Grind.{common_steps}
use Rattle.std.proofs.lemmas.Bool.Decides.{nat_tests}
use Rattle.std.proofs.lemmas.List.Folds.{list_any_more, list_any_at}
use Rattle.am_term.specs.declared.id.SortId.{SortId}
use Rattle.am_term.specs.declared.signature.Signature.{Signature}
use Rattle.am_term.specs.Sorts.{fits, fits_in, akin, akin_in}
use Rattle.am_syntax.specs.declared.written.WrittenTerm.{WrittenTerm}
use Rattle.am_syntax.specs.declared.written.WrittenTerm.TheViews.{the_lemmas}
use Rattle.am_syntax.specs.Scopes.{Scope}
use Rattle.am_syntax.specs.Flaws.{written_sort, written_sorts, misfits, some_misfit}
use Rattle.am_syntax.proofs.Equations.{has_unknown_name-Alone, has_unknown_name-Headed, has_bad_arity-Alone, has_bad_arity-Headed, has_unbound-Alone, has_unbound-Headed, has_bad_sort-Alone, has_bad_sort-Headed}

pub ruleset name_flaws = (common_steps, the_lemmas, has_unknown_name-Alone, has_unknown_name-Headed, list_any_more, list_any_at)

pub ruleset sort_flaws = (common_steps, the_lemmas, has_bad_sort-Alone, has_bad_sort-Headed, list_any_more, list_any_at)

pub ruleset arity_flaws = (common_steps, the_lemmas, has_bad_arity-Alone, has_bad_arity-Headed, list_any_more, list_any_at)

pub ruleset unbound_flaws = (common_steps, the_lemmas, has_unbound-Alone, has_unbound-Headed, list_any_more, list_any_at)

pub ruleset symbol_steps = (common_steps, nat_tests)

-- ---- sorts
pub fits-in : (sig : Signature) (s t : SortId) → fits sig s t ≡ fits_in sig.parents s t
unfolding fits
fits-in sig s t = refl

pub akin-in : (sig : Signature) (s t : SortId) → akin sig s t ≡ akin_in sig.parents s t
unfolding akin
akin-in sig s t = refl

-- without places, or behind the last place, nothing misfits
pub misfit-nowhere : (parents : List (Option SortId)) (ss : List (Option SortId)) → some_misfit parents ss [] ≡ false
misfit-nowhere parents [] = refl
misfit-nowhere parents (s ∷ ss) = refl

pub misfit-at : (s : Scope) (ts : List WrittenTerm) (ps : List SortId) (i : ℕ) (t : WrittenTerm) (p : SortId) → i < length ts → i < length ps → some_misfit s.parents (written_sorts s (drop i ts)) (drop i ps) ≡ (misfits s.parents (written_sort s (get_or ts i t)) (get_or ps i p) || some_misfit s.parents (written_sorts s (drop (i + 1) ts)) (drop (i + 1) ps))
misfit-at s ts ps i t p h k = rw (add-one, drop-cons ts i t, drop-cons ps i p) refl

pub misfit-past : (s : Scope) (ts : List WrittenTerm) (ps : List SortId) (i : ℕ) → min (length ts) (length ps) ≤ i → some_misfit s.parents (written_sorts s (drop i ts)) (drop i ps) ≡ false
misfit-past s [] ps zero h = refl
misfit-past s (t ∷ ts) [] zero h = refl
misfit-past s (t ∷ ts) (p ∷ ps) zero h = absurd (omega arith)
misfit-past s [] ps (suc i) h = refl
misfit-past s (t ∷ ts) [] (suc i) h = misfit-nowhere s.parents (written_sorts s (drop i ts))
misfit-past s (t ∷ ts) (p ∷ ps) (suc i) h = misfit-past s ts ps i (omega arith)

pub ruleset sort_steps = (common_steps, nat_tests, fits-in, akin-in, misfit-nowhere, misfit-at, misfit-past)

pub ruleset atom_steps = (common_steps, list_any_more, list_any_at)
