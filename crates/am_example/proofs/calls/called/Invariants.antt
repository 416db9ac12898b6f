use Rattle.std.proofs.Common.{◌≡◌, map, take}
use Rattle.am_example.specs.ExampleTheory.{calling}
use Rattle.am_example.proofs.calls.called.Given as goal

abbrev pub invariant-loop-row : goal.invariant-loop-row
invariant-loop-row l = l.routines ≡ map (λ row. calling row.0.now row.1.now row.2.now) (take l.row-index l.rows)
