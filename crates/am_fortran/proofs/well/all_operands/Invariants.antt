use Rattle.std.proofs.Common.{◌≡◌, true, take}
use Rattle.std.specs.List.{list_all}
use Rattle.am_fortran.specs.Well.{is_operand, fits_operand}
use Rattle.am_fortran.proofs.well.all_operands.Given as goal

-- the operands so far are kept, and fit
abbrev pub invariant-loop-operand : goal.invariant-loop-operand
invariant-loop-operand l = record {
  kept : list_all is_operand (take l.operand-index l.operands) ≡ true;
  fits : list_all fits_operand (take l.operand-index l.operands) ≡ true;
}
