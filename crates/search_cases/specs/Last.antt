-- For the proofs of this program alone: the last place of a list.
use Rattle.std.specs.Prelude.{◌≢◌, ℕ, zero, List, [], ◌∷◌, ◌<◌, length}
use Rattle.std.proofs.Common.{refl, arith}
use Rattle.am_agenda.specs.declared.wait_row.WaitRow.{WaitRow}

-- as many rows as stand behind the first
abbrev pub last_place : List WaitRow → ℕ
last_place [] = zero
last_place (r ∷ rs) = length rs

pub last_below : (list : List WaitRow) → list ≢ [] → last_place list < length list
last_below [] some = absurd (some refl)
last_below (r ∷ rs) some = omega arith
