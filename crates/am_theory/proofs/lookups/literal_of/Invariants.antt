use Rattle.std.proofs.Common.{◌≡◌, ◌==◌, length, find}
use Rattle.am_theory.specs.declared.theory.LiteralDecl.{LiteralDecl}
use Rattle.am_theory.specs.Lookups.{literal_declared}
use Rattle.am_theory.proofs.lookups.literal_of.Given as goal

-- what is left decides
abbrev pub invariant-loop-rest : goal.invariant-loop-rest
invariant-loop-rest l = literal_declared l.theory l.symbol ≡ find (λ (x : LiteralDecl). x.symbol.0 == l.symbol.0) l.rest

abbrev pub decreases-loop-rest : goal.decreases-loop-rest
decreases-loop-rest l = length l.rest
