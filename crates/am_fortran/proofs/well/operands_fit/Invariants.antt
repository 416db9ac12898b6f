use Rattle.std.proofs.Common.{◌≡◌, true, take}
use Rattle.std.specs.List.{list_all}
use Rattle.am_fortran.specs.Well.{fits_operand}
use Rattle.am_fortran.proofs.well.operands_fit.Given as goal

-- those of the operands so far
abbrev pub invariant-loop-operand : goal.invariant-loop-operand
invariant-loop-operand l = list_all fits_operand (take l.operand-index l.operands) ≡ true
