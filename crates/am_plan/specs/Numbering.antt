-- The names of terms made one after another, with the number of the next local in hand.
use Rattle.std.specs.Prelude.{◌+◌, ℕ, Option, Some, None, List, [], ◌∷◌}
use Rattle.am_term.specs.declared.id.SortId.{SortId}
use Rattle.am_term.specs.declared.term.Term.{Term}
use Rattle.am_plan.specs.Names.{Named, named_by, output_for}

-- a local was taken, or none
abbrev pub next_local : Option (List ℕ) → ℕ → ℕ
next_local (Some n) k = k
next_local None k = k + 1

-- each term by the first output whose answer it is, else by the next local, from number k on
abbrev pub named_from : ℕ → List (List ℕ × SortId) → List Term → List Term → List Named
named_from k outputs answer [] = []
named_from k outputs answer (x ∷ xs) = named_by (output_for x outputs answer) k x ∷ named_from (next_local (output_for x outputs answer) k) outputs answer xs
