use Rattle.std.proofs.Common.{◌≡◌, take}
use Rattle.am_fortran.proofs.guess.names.Given as goal

-- the words so far
abbrev pub invariant-loop-word : goal.invariant-loop-word
invariant-loop-word l = l.names ≡ take l.word-index l.words
