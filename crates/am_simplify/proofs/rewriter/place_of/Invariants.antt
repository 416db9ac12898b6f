use Rattle.std.proofs.Common.{◌≡◌, ◌+◌, length}
use Rattle.am_simplify.specs.Units.{place_of}
use Rattle.am_simplify.proofs.rewriter.place_of.Given as goal

-- those passed are counted, and what is left tells the rest
abbrev pub invariant-loop-rest : goal.invariant-loop-rest
invariant-loop-rest l = record {
  counted : l.place + length l.rest ≡ length l.units;
  place : place_of l.row l.units ≡ l.place + place_of l.row l.rest;
}

abbrev pub decreases-loop-rest : goal.decreases-loop-rest
decreases-loop-rest l = length l.rest
