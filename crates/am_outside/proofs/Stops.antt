-- When a put to a page doesn't stop.
use Rattle.std.proofs.Common.{◌≡◌, ℕ, List, [], ◌∷◌, ◌+◌, ◌-◌, ◌^◌, ◌≤◌, ◌<◌, min, map, arith, Bool, true, false, None, cond, refl}
use Rattle.std.proofs.lemmas.Bool.Decides.{nat_tests}
use Rattle.am_outside.proofs.Past.{all_past_later}
use Rattle.am_outside.specs.Calls.{all_past}
use Rattle.am_outside.specs.Pages.{sure_bytes, planned, stop_of}

-- no pair is for the next put
planned_none : (a : ℕ) (pairs : List (ℕ × ℕ)) → all_past a (map (λ pair. pair.0) pairs) ≡ true → planned pairs (min (a + 1) (2 ^ 64 - 1)) ≡ None
planned_none a [] past = refl
planned_none a (p ∷ ps) past = grind (arith, nat_tests, planned_none a ps)

-- a put within what is sure doesn't stop, and leaves the rest sure
pub record IsSure (held room calls : ℕ) (pairs : List (ℕ × ℕ)) (n : ℕ) : Type 0 where
  pub no_stop : stop_of (planned pairs (min (calls + 1) (2 ^ 64 - 1))) (room - held) n ≡ None
  pub left : sure_bytes held room calls pairs ≤ sure_bytes (held + n) room (min (calls + 1) (2 ^ 64 - 1)) pairs + n

is_sure_at : (b : Bool) (held room calls : ℕ) (pairs : List (ℕ × ℕ)) (n : ℕ) → all_past calls (map (λ pair. pair.0) pairs) ≡ b → calls ≤ 2 ^ 64 - 1
    → 0 < cond b (room - held) 0 → n ≤ cond b (room - held) 0 → IsSure held room calls pairs n
is_sure_at false held room calls pairs n e in_range sure le = absurd (omega arith)
is_sure_at true held room calls pairs n e in_range sure le =
    let later : all_past (min (calls + 1) (2 ^ 64 - 1)) (map (λ pair. pair.0) pairs) ≡ true =
    all_past_later calls (min (calls + 1) (2 ^ 64 - 1)) (map (λ pair. pair.0) pairs) (omega arith) e in
    record { no_stop = rw (planned_none calls pairs e) (grind (arith, nat_tests)); left = rw (e, later) (omega arith) }

pub is_sure : (held room calls : ℕ) (pairs : List (ℕ × ℕ)) (n : ℕ) → calls ≤ 2 ^ 64 - 1 → 0 < sure_bytes held room calls pairs → n ≤ sure_bytes held room calls pairs
    → IsSure held room calls pairs n
is_sure held room calls pairs n in_range sure le = is_sure_at (all_past calls (map (λ pair. pair.0) pairs)) held room calls pairs n refl in_range sure le
