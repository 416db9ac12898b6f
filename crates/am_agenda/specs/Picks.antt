-- What the choosers pick.
use Rattle.std.specs.Prelude.{Bool, nat_lt, ◌||◌, ◌==◌, ◌&&◌, ℕ, List, [], ◌∷◌, ◌+◌, ◌%◌, if◌then◌else◌}
use Rattle.am_agenda.specs.declared.wait_row.WaitRow.{WaitRow}

-- of less weight, or of the same weight and with a smaller number
abbrev pub is_lighter : WaitRow → WaitRow → Bool
is_lighter r s = nat_lt r.weight s.weight || ((r.weight == s.weight) && nat_lt r.number s.number)

-- with a smaller number
abbrev pub is_older : WaitRow → WaitRow → Bool
is_older r s = nat_lt r.number s.number

-- the best so far stands at a place, and the list goes on at another; a row behind is taken only if it is better
abbrev pub best_from : (WaitRow → WaitRow → Bool) → ℕ → WaitRow → ℕ → List WaitRow → ℕ
best_from is_better place best at [] = place
best_from is_better place best at (r ∷ rs) = if is_better r best then best_from is_better at r (at + 1) rs else best_from is_better place best (at + 1) rs

-- the place of the first row than which none is better
abbrev pub best_place : (WaitRow → WaitRow → Bool) → List WaitRow → ℕ
best_place is_better [] = 0
best_place is_better (r ∷ rs) = best_from is_better 0 r 1 rs

abbrev pub lightest_place : List WaitRow → ℕ
lightest_place list = best_place is_lighter list

abbrev pub oldest_place : List WaitRow → ℕ
oldest_place list = best_place is_older list

-- at a call of this number, from 1: each fifth call goes by age, the others by weight
abbrev pub mixed_place : ℕ → List WaitRow → ℕ
mixed_place call list = if call % 5 == 0 then oldest_place list else lightest_place list
