use Rattle.std.proofs.Common.{◌≡◌, map, take}
use Rattle.am_fortran.specs.Guess.{operand_of}
use Rattle.am_fortran.proofs.guess.operands.Given as goal

-- the operands of the words so far
abbrev pub invariant-loop-word : goal.invariant-loop-word
invariant-loop-word l = l.operands ≡ map operand_of (take l.word-index l.words)
