use Rattle.std.proofs.Common.{◌≡◌, ◌-◌, ◌≤◌, length, take}
use Rattle.am_outside.specs.Growth.{Grows}
use Rattle.am_top.proofs.printing.put_lines.Given as goal

-- what is held has grown by the text so far, and no fault came
abbrev pub invariant-loop-at : goal.invariant-loop-at
invariant-loop-at g l = record {
  within : l.at ≤ length l.text;
  grown : Grows (g.O.Sink.held l.fn.out) (g.O.Sink.held l.out) (take l.at l.text);
  kept : g.O.Sink.faults l.out ≡ g.O.Sink.faults l.fn.out;
}

abbrev pub decreases-loop-at : goal.decreases-loop-at
decreases-loop-at g l = length l.text - l.at
