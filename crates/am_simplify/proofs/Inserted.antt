-- Where a unit is put among others, and what is there then.
use Rattle.std.proofs.Common.{◌≡◌, suc, Bool, true, false, refl, ap, List, [], ◌∷◌, nat_lt, if◌then◌else◌}
use Rattle.std.specs.List.{insert}
use Rattle.std.proofs.lemmas.Grind.{common_steps}
use Rattle.am_simplify.specs.Units.{place_of, with_unit}
use Rattle.am_simplify.specs.declared.step.Unit.{Unit}

pub with-inserted : (u : Unit) (us : List Unit) → insert us (place_of u.row us) u ≡ with_unit u us
with-inserted u [] = refl
with-inserted u (v ∷ vs) = by (nat_lt v.row u.row) (with-inserted u vs)
  where
    by : (b : Bool) → insert vs (place_of u.row vs) u ≡ with_unit u vs → insert (v ∷ vs) (if b then suc (place_of u.row vs) else 0) u ≡ (if b then v ∷ with_unit u vs else u ∷ v ∷ vs)
    by true e = ap (λ xs. v ∷ xs) e
    by false e = refl

pub ruleset inserting = (common_steps, with-inserted)
