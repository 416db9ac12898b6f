use Rattle.std.proofs.Common.{take}
use Rattle.am_diagram.specs.Steps.{IsProof}
use Rattle.am_check.proofs.proving.first_bad.Given as goal

-- the rows so far are steps
abbrev pub invariant-loop-place : goal.invariant-loop-place
invariant-loop-place l = IsProof l.theory l.diagram (take l.place l.rows)
