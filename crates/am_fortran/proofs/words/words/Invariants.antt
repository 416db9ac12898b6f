use Rattle.std.proofs.Common.{◌≡◌, take}
use Rattle.std.specs.List.{fold}
use Rattle.am_fortran.specs.Words.{scan_step, scan_start}
use Rattle.am_fortran.proofs.words.words.Given as goal

-- the bytes so far are scanned
abbrev pub invariant-loop-byte : goal.invariant-loop-byte
invariant-loop-byte l = l.scanner ≡ fold scan_step scan_start (take l.byte-index l.group)
