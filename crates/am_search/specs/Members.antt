-- Rows with their numbers, from 1.
use Rattle.std.specs.Prelude.{ℕ, List, [], ◌∷◌, ◌+◌, Option, ◌==◌, None, slice_get, ◌-◌, nat_le, option_map, Bool, ◌||◌, ◌&&◌, not, min, map, true, false, if◌then◌else◌}
use Rattle.std.specs.List.{filter}
use Rattle.am_clause.specs.Size.{clause_weight}
use Rattle.am_clause.specs.declared.clause.Clause.{Clause}
use Rattle.am_clause.specs.declared.row.Row.{Row}
use Rattle.am_search.specs.Marks.{was_chosen, was_kept}
use Rattle.am_search.specs.Sources.{Source}
use Rattle.am_agenda.specs.declared.wait_row.WaitRow.{WaitRow}
use Rattle.am_search.specs.declared.fate.Prepared.{Prepared}

pub record Member : Type 0 where
  pub number : ℕ
  pub row : Row

abbrev pub numbered_rows : ℕ → List Row → List Member
numbered_rows n [] = []
numbered_rows n (row ∷ rows) = (record { number = n; row = row }) ∷ numbered_rows (n + 1) rows

-- the row of a number, if there is one
abbrev pub row_at : List Row → ℕ → Option Row
row_at rows n = if n == 0 then None else slice_get rows (n - 1)

-- as a source: the rows up to a number are axiom rows
abbrev pub sourced : ℕ → ℕ → Row → Source
sourced axioms n row = record { number = n; axiom_row = nat_le n axioms; clause = row.clause }

abbrev pub source_of : ℕ → Member → Source
source_of axioms m = sourced axioms m.number m.row

abbrev pub source_at : ℕ → List Row → ℕ → Option Source
source_at axioms rows n = option_map (sourced axioms n) (row_at rows n)

-- processed are the axiom rows and the chosen rows
abbrev pub is_processed : ℕ → List ℕ → Member → Bool
is_processed axioms choices m = nat_le m.number axioms || was_chosen choices m.number

abbrev pub processed : ℕ → List Row → List ℕ → List Member
processed axioms rows choices = filter (is_processed axioms choices) (numbered_rows 1 rows)

-- the axiom rows and the rows that were kept
abbrev pub is_standing : ℕ → List Prepared → Member → Bool
is_standing axioms fates m = nat_le m.number axioms || was_kept fates m.number

abbrev pub kept_rows : ℕ → List Row → List Prepared → List Member
kept_rows axioms rows fates = filter (is_standing axioms fates) (numbered_rows 1 rows)

-- waiting are the kept rows that weren't chosen
abbrev pub is_waiting : List Prepared → List ℕ → Member → Bool
is_waiting fates choices m = was_kept fates m.number && not (was_chosen choices m.number)

-- shown to a chooser by number and weight; no waiting row is heavier than the limit, so the weight is its clause's
abbrev pub shown : ℕ → Member → WaitRow
shown most m = record { number = m.number; weight = min (clause_weight m.row.clause) (most + 1) }

abbrev pub waiting : ℕ → List Row → List Prepared → List ℕ → List WaitRow
waiting most rows fates choices = map (shown most) (filter (is_waiting fates choices) (numbered_rows 1 rows))

-- a row as rewriting and dropping know it: its number and its clause
abbrev pub clause_row : Member → ℕ × Clause
clause_row m = (m.number, m.row.clause)

abbrev pub clause_rows : List Member → List (ℕ × Clause)
clause_rows ms = map clause_row ms

abbrev pub is_empty : {A : Type 0} → List A → Bool
is_empty [] = true
is_empty (x ∷ xs) = false
