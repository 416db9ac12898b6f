use Rattle.std.proofs.Common.{◌≡◌, ◌++◌, map, length}
use Rattle.am_term.specs.declared.symbol.Symbol.{Symbol}
use Rattle.am_diagram.proofs.looking.symbol_names.Given as goal

-- the names so far, and those that are left, are all
abbrev pub invariant-loop-rest : goal.invariant-loop-rest
invariant-loop-rest l = l.table.names ++ map (λ (y : Symbol). y.name) l.rest ≡ map (λ (y : Symbol). y.name) l.symbols

abbrev pub decreases-loop-rest : goal.decreases-loop-rest
decreases-loop-rest l = length l.rest
