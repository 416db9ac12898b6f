-- The span of a list of terms bounds that of each.
use Rattle.std.proofs.Common.{◌≡◌, ◌<◌, ◌≤◌, ℕ, max, List, [], ◌∷◌, ◌++◌, length, get_or}
use Rattle.std.proofs.lemmas.List.Recursion.{max_bounds, max_push}
use Rattle.am_term.specs.declared.term.Term.{Term}
use Rattle.am_term.specs.Span.{span, spans, spans-none, spans-more}

-- a member of a list
pub span-le-spans : (ts : List Term) (i : ℕ) (d : Term) → i < length ts → span (get_or ts i d) ≤ spans ts
span-le-spans = max_bounds spans span spans-none spans-more

pub spans-push : (ts : List Term) (t : Term) → spans (ts ++ t ∷ []) ≡ max (spans ts) (span t)
spans-push = max_push spans span spans-none spans-more
