-- How answers are told from other terms.
use Rattle.std.specs.Prelude.{◌&&◌, ℕ, Bool, true, false, List, [], ◌∷◌, nat_le}
use Rattle.am_term.specs.declared.id.SortId.{SortId}
use Rattle.am_term.specs.declared.signature.Signature.{Signature}
use Rattle.am_term.specs.declared.term.Term.{Term}
use Rattle.am_term.specs.Sorting.{term_fits}
use Rattle.am_term.specs.Weight.{nodes}
use Rattle.am_plan.specs.Answers.{is_ready, weight_limit}

-- a term for an output of this sort
abbrev pub is_server : Signature → List SortId → SortId → Term → Bool
is_server sig ins s x = term_fits sig ins x s && (is_ready sig x && nat_le (nodes x) weight_limit)

-- one term for each output
abbrev pub are_servers : Signature → List SortId → List (List ℕ × SortId) → List Term → Bool
are_servers sig ins [] [] = true
are_servers sig ins [] (x ∷ xs) = false
are_servers sig ins (o ∷ os) [] = false
are_servers sig ins (o ∷ os) (x ∷ xs) = is_server sig ins o.1 x && are_servers sig ins os xs
