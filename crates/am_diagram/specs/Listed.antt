-- Inputs, objects and outputs are listed with their names and sorts.
use Rattle.std.specs.Prelude.{ℕ, List, map}
use Rattle.am_term.specs.declared.id.SortId.{SortId}

-- the names of a list of inputs, objects or outputs
abbrev pub entry_names : List (List ℕ × SortId) → List (List ℕ)
entry_names = map (λ (d : List ℕ × SortId). d.0)

-- their sorts
abbrev pub entry_sorts : List (List ℕ × SortId) → List SortId
entry_sorts = map (λ (d : List ℕ × SortId). d.1)
