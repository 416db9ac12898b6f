-- Whether a number stands in the terms of ids.
use Rattle.std.proofs.Common.{◌≡◌, ◌||◌, ◌+◌, ◌<◌, ℕ, List, refl, length, drop, get_or}
use Rattle.std.specs.List.{list_any}
use Rattle.std.proofs.lemmas.Grind.{common_steps}
use Rattle.std.proofs.lemmas.Bool.Decides.{nat_tests}
use Rattle.std.proofs.lemmas.List.{drop_more}
use Rattle.am_unify.specs.Occurrence.{number_occurs, number_occurs_laws}
use Rattle.am_bank.specs.declared.id.TermId.{TermId}
use Rattle.am_bank.specs.Node.{Shared}
use Rattle.am_sharing.specs.Terms.{term_at, terms_at}
use Rattle.am_sharing.proofs.Nodes.{bound-at}

-- the first of what is left, and what is behind it
pub any-at : (ns : List Shared) (n : ℕ) (ids : List TermId) (i : ℕ) (x : TermId) → i < length ids → list_any (number_occurs n) (terms_at ns (drop i ids)) ≡ (number_occurs n (term_at ns (get_or ids i x).0) || list_any (number_occurs n) (terms_at ns (drop (i + 1) ids)))
any-at ns n ids i x h = rw (drop_more ids i x h) refl

pub ruleset standing = (common_steps, nat_tests, number_occurs_laws, bound-at, any-at)
