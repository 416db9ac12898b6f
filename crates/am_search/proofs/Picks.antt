-- Who is picked waits, and who waits is a row.
use Rattle.std.specs.Prelude.{◌≡◌, ◌≤◌, ◌+◌, ◌∷◌, [], ℕ, zero, suc, List, Bool, true, false, Some, length, map, if◌then◌else◌}
use Rattle.std.proofs.Common.{subst, arith}
use Rattle.std.proofs.lemmas.Grind.{common_steps}
use Rattle.std.specs.List.{AllByRecursion, filter}
use Rattle.am_agenda.specs.declared.wait_row.WaitRow.{WaitRow}
use Rattle.am_clause.specs.declared.row.Row.{Row}
use Rattle.am_search.specs.Members.{Member, shown, is_waiting, numbered_rows}
use Rattle.am_search.specs.Plain.{Reading, picked_at, wait_of}
use Rattle.am_search.specs.Rules.{Rules}

abbrev AreBelow : ℕ → List WaitRow → Type 0
AreBelow most ws = AllByRecursion (λ (w : WaitRow). w.number ≤ most) ws

one_below : (b : Bool) (limit most : ℕ) (m : Member) (ms : List Member) → m.number ≤ most → AreBelow most (map (shown limit) ms) → AreBelow most (map (shown limit) (if b then m ∷ ms else ms))
one_below true limit most m ms low a = (low, a)
one_below false limit most m ms low a = a

all_below : (test : Member → Bool) (limit most k : ℕ) (rows : List Row) → k + length rows ≤ most + 1 → AreBelow most (map (shown limit) (filter test (numbered_rows k rows)))
all_below test limit most k [] low = tt
all_below test limit most k (r ∷ rows) low =
    let m : Member = record { number = k; row = r } in
    one_below (test m) limit most m (filter test (numbered_rows (k + 1) rows)) (omega arith) (all_below test limit most (k + 1) rows (omega arith))

picked_below : (most : ℕ) (ws : List WaitRow) (place n : ℕ) → AreBelow most ws → picked_at ws place ≡ Some n → n ≤ most
picked_below most [] place n a is = absurd (cc)
picked_below most (w ∷ ws) zero n a is = let same : w.number ≡ n = cc in subst (λ (k : ℕ). k ≤ most) same a.0
picked_below most (w ∷ ws) (suc place) n a is = picked_below most ws place n a.1 is

-- the number of a row that is picked is that of a row
pub picked_there : (c : Rules) (v : Reading) (ws : List WaitRow) (place n : ℕ) → ws ≡ wait_of c v → picked_at ws place ≡ Some n → n ≤ length v.rows
picked_there c v ws place n are is =
    picked_below (length v.rows) (wait_of c v) place n (all_below (is_waiting v.judged.fates v.choices) c.most (length v.rows) 1 v.rows (omega arith))
    (subst (λ (xs : List WaitRow). picked_at xs place ≡ Some n) are is)

pub ruleset picking = (common_steps, picked_there)
