use Rattle.std.proofs.Common.{◌≡◌, length, map}
use Rattle.am_term.specs.NameLists.{is_among}
use Rattle.am_fortran.specs.declared.statement.Decl.{Decl}
use Rattle.am_plan.proofs.declaring.is_declared.Given as goal

-- what is left decides
abbrev pub invariant-loop-rest : goal.invariant-loop-rest
invariant-loop-rest l = is_among l.name (map (λ (e : Decl). e.name) l.declarations) ≡ is_among l.name (map (λ (e : Decl). e.name) l.rest)

abbrev pub decreases-loop-rest : goal.decreases-loop-rest
decreases-loop-rest l = length l.rest
