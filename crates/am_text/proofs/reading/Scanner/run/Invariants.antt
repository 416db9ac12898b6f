use Rattle.std.proofs.Common.{◌≡◌, drop}
use Rattle.am_text.specs.Scan.{run, state, start}
use Rattle.am_text.proofs.reading.Scanner.run.Given as goal

abbrev pub invariant-loop-i : goal.invariant-loop-i
invariant-loop-i l = run l.self.depth l.i (drop l.i l.bytes) (state l.scan) ≡ run l.self.depth 0 l.bytes start
