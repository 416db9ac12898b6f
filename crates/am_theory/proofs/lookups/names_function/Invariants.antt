use Rattle.std.proofs.Common.{◌≡◌, length, map}
use Rattle.am_term.specs.NameLists.{is_among}
use Rattle.am_theory.specs.declared.theory.FortranFunction.{FortranFunction}
use Rattle.am_theory.proofs.lookups.names_function.Given as goal

-- what is left decides
abbrev pub invariant-loop-rest : goal.invariant-loop-rest
invariant-loop-rest l = is_among l.name (map (λ (f : FortranFunction). f.name) l.theory.functions) ≡ is_among l.name (map (λ (f : FortranFunction). f.name) l.rest)

abbrev pub decreases-loop-rest : goal.decreases-loop-rest
decreases-loop-rest l = length l.rest
