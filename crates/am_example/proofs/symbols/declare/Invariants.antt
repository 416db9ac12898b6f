use Rattle.std.proofs.Common.{◌≡◌, ◌++◌, map, take}
use Rattle.am_syntax.specs.Scopes.{profile}
use Rattle.am_example.specs.ExampleTheory.{giving}
use Rattle.am_example.proofs.symbols.declare.Given as goal

abbrev pub invariant-loop-row : goal.invariant-loop-row
invariant-loop-row l = map profile l.symbols ≡ map profile l.fn.symbols ++ map (λ row. giving row.0.now l.kind row.1.now row.2) (take l.row-index l.rows)
