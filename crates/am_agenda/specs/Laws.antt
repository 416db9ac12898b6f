-- Laws of what is picked.
use Rattle.std.specs.Prelude.{◌≢◌, ◌≡◌, Bool, false, ℕ, List, [], Some, slice_get}
use Rattle.std.specs.List.{AllByRecursion}
use Rattle.am_agenda.specs.Picks.{is_lighter, is_older, lightest_place, oldest_place}
use Rattle.am_agenda.specs.declared.wait_row.WaitRow.{WaitRow}

-- no row of the list is better than the row at the place
pub record IsBest (is_better : WaitRow → WaitRow → Bool) (list : List WaitRow) (place : ℕ) : Type 0 where
  pub row : WaitRow
  pub there : slice_get list place ≡ Some row
  pub unbeaten : AllByRecursion (λ r. is_better r row ≡ false) list

-- what is picked by weight and by age
pub record PicksBest (list : List WaitRow) : Type 0 where
  pub lightest : IsBest is_lighter list (lightest_place list)
  pub oldest : IsBest is_older list (oldest_place list)

abbrev pub PicksAreBest : Type 0
PicksAreBest = (list : List WaitRow) → list ≢ [] → PicksBest list
