use Rattle.std.proofs.Common.{◌≡◌, length, find}
use Rattle.std.specs.Str.{bytes_eq}
use Rattle.am_theory.specs.declared.theory.FortranFunction.{FortranFunction}
use Rattle.am_theory.specs.Lookups.{function_named}
use Rattle.am_theory.proofs.lookups.function_named.Given as goal

-- what is left decides
abbrev pub invariant-loop-rest : goal.invariant-loop-rest
invariant-loop-rest l = function_named l.theory l.name ≡ find (λ (f : FortranFunction). bytes_eq f.name l.name) l.rest

abbrev pub decreases-loop-rest : goal.decreases-loop-rest
decreases-loop-rest l = length l.rest
