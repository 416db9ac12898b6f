use Rattle.std.proofs.Common.{◌≡◌, map, take}
use Rattle.am_fortran.specs.Text.{operand_text}
use Rattle.am_fortran.proofs.writing.operand_texts.Given as goal

-- the texts of the operands so far
abbrev pub invariant-loop-member : goal.invariant-loop-member
invariant-loop-member l = l.texts ≡ map operand_text (take l.member-index l.operands)
