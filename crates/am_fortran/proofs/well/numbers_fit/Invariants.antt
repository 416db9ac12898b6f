use Rattle.std.proofs.Common.{◌≡◌, true, take}
use Rattle.std.specs.List.{list_all}
use Rattle.am_fortran.specs.Well.{fits_statement}
use Rattle.am_fortran.proofs.well.numbers_fit.Given as goal

-- those of the statements so far
abbrev pub invariant-loop-statement : goal.invariant-loop-statement
invariant-loop-statement l = list_all fits_statement (take l.statement-index l.statements) ≡ true
