-- The weights and the features of rows, as a search keeps them.
use Rattle.std.specs.Prelude.{ℕ, List, [], ◌∷◌, ◌+◌, ◌&&◌, not, min, if◌then◌else◌}
use Rattle.am_agenda.specs.declared.wait_row.WaitRow.{WaitRow}
use Rattle.am_clause.specs.Size.{clause_weight}
use Rattle.am_clause.specs.declared.row.Row.{Row}
use Rattle.am_simplify.specs.Features.{clause_features}
use Rattle.am_search.specs.Marks.{was_kept, was_chosen}
use Rattle.am_search.specs.declared.fate.Prepared.{Prepared}

-- up to here a weight is told in full
abbrev pub cap : ℕ
cap = 1000000

-- the weight of a row's clause
abbrev pub row_weight : Row → ℕ
row_weight row = min (clause_weight row.clause) (cap + 1)

-- the features of a row's clause
abbrev pub row_features : Row → ℕ
row_features row = clause_features row.clause

-- For private contracts: the rows that wait, by the weights of the rows from number k on.
abbrev pub weighed_from : ℕ → List Prepared → List ℕ → ℕ → List ℕ → List WaitRow
weighed_from most fates choices k [] = []
weighed_from most fates choices k (w ∷ ws) =
    if was_kept fates k && not (was_chosen choices k) then (record { number = k; weight = min w (most + 1) }) ∷ weighed_from most fates choices (k + 1) ws
    else weighed_from most fates choices (k + 1) ws
