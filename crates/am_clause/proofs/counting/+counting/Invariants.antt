use Rattle.std.proofs.Common.{◌≡◌, take, map, sum}
use Rattle.am_clause.specs.Count.{count, count_negated, multiplied}
use Rattle.am_clause.specs.Forms.{capped}
use Rattle.am_clause.proofs.counting.+counting.Given as goal

-- the parts so far, added and multiplied
abbrev pub invariant-count_parts-loop-part : goal.invariant-count_parts-loop-part
invariant-count_parts-loop-part l = record {
  sum_pos : l.sums.pos ≡ capped (sum (map count (take l.part-index l.parts)));
  sum_neg : l.sums.neg ≡ capped (sum (map count_negated (take l.part-index l.parts)));
  multiple_pos : l.multiples.pos ≡ capped (multiplied (map count (take l.part-index l.parts)));
  multiple_neg : l.multiples.neg ≡ capped (multiplied (map count_negated (take l.part-index l.parts)));
}
