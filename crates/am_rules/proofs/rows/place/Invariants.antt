use Rattle.std.proofs.Common.{◌≡◌, ◌+◌, drop}
use Rattle.am_clause.specs.Renaming.{places_in}
use Rattle.am_rules.proofs.rows.place.Given as goal

-- the variable isn't among those before the i-th
abbrev pub invariant-loop-i : goal.invariant-loop-i
invariant-loop-i l = places_in l.seen l.n l.sort ≡ l.i + places_in (drop l.i l.seen) l.n l.sort
