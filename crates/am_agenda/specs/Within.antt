-- What is picked stands in the list.
use Rattle.std.specs.Prelude.{◌≢◌, ◌≡◌, Bool, true, false, ℕ, List, [], ◌∷◌, ◌+◌, ◌<◌, ◌%◌, ◌==◌, length, if◌then◌else◌}
use Rattle.std.proofs.Common.{refl, arith}
use Rattle.am_agenda.specs.Picks.{best_from, best_place, is_lighter, is_older, lightest_place, oldest_place, mixed_place}
use Rattle.am_agenda.specs.declared.wait_row.WaitRow.{WaitRow}

either_below : (b : Bool) (x y n : ℕ) → x < n → y < n → (if b then x else y) < n
either_below true x y n first second = first
either_below false x y n first second = second

from_below : (is_better : WaitRow → WaitRow → Bool) (place : ℕ) (best : WaitRow) (at n : ℕ) (rs : List WaitRow)
    → place < at → at + length rs ≡ n → best_from is_better place best at rs < n
from_below is_better place best at n [] low all = omega arith
from_below is_better place best at n (r ∷ rs) low all =
    either_below (is_better r best) _ _ n
    (from_below is_better at r (at + 1) n rs (omega arith) (omega arith))
    (from_below is_better place best (at + 1) n rs (omega arith) (omega arith))

pub best_below : (is_better : WaitRow → WaitRow → Bool) (list : List WaitRow) → list ≢ [] → best_place is_better list < length list
best_below is_better [] some = absurd (some refl)
best_below is_better (r ∷ rs) some = from_below is_better 0 r 1 (length (r ∷ rs)) rs (omega arith) (omega arith)

pub lightest_below : (list : List WaitRow) → list ≢ [] → lightest_place list < length list
lightest_below list some = best_below is_lighter list some

pub oldest_below : (list : List WaitRow) → list ≢ [] → oldest_place list < length list
oldest_below list some = best_below is_older list some

pub mixed_below : (call : ℕ) (list : List WaitRow) → list ≢ [] → mixed_place call list < length list
mixed_below call list some = either_below (call % 5 == 0) _ _ (length list) (oldest_below list some) (lightest_below list some)
