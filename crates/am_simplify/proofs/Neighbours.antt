-- The places of the arguments that are left.
use Rattle.std.proofs.Common.{◌≡◌, ◌++◌, ◌+◌, ◌<◌, ◌≤◌, ℕ, refl, arith, List, [], ◌∷◌, drop, length, get_or, drop-cons, add-one}
use Rattle.std.proofs.lemmas.Grind.{common_steps}
use Rattle.am_term.specs.declared.term.Term.{Term}
use Rattle.am_term.specs.declared.term.Term.TheViews.{the_lemmas}
use Rattle.am_simplify.specs.Places.{places, places_all, places_laws}

pub places_next : (k : ℕ) (ts : List Term) (path : List ℕ) (i : ℕ) (d : Term) → i < length ts → places_all k (drop i ts) path ≡ places (get_or ts i d) (path ++ k ∷ []) ++ places_all (k + 1) (drop (i + 1) ts) path
places_next k ts path i d h = rw (add-one i, drop-cons ts i d) refl

pub places_end : (k : ℕ) (ts : List Term) (path : List ℕ) (i : ℕ) → length ts ≤ i → places_all k (drop i ts) path ≡ []
places_end k ts path i h = grind (arith, common_steps)

pub ruleset placing = (common_steps, the_lemmas, places_laws, places_next, places_end)
