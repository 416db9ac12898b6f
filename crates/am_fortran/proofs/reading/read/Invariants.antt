use Rattle.std.proofs.Common.{◌-◌, length}
use Rattle.am_fortran.specs.Drafts.{ReadsTo}
use Rattle.am_fortran.proofs.reading.read.Given as goal

-- the text is read up to the place
abbrev pub invariant-loop-progress : goal.invariant-loop-progress
invariant-loop-progress l = ReadsTo l.bytes l.progress

abbrev pub decreases-loop-progress : goal.decreases-loop-progress
decreases-loop-progress l = length l.bytes - l.progress.at
