use Rattle.std.proofs.Common.{◌≡◌, map, take}
use Rattle.am_example.proofs.terms.named.Given as goal

abbrev pub invariant-loop-name : goal.invariant-loop-name
invariant-loop-name l = l.named ≡ map (λ row. (row.0.now, row.1)) (take l.name-index l.rows)
