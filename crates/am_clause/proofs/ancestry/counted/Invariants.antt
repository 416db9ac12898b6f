use Rattle.std.proofs.Common.{◌≡◌, ◌≤◌}
use Rattle.am_clause.specs.Ancestors.{count_to}
use Rattle.am_clause.specs.Marks.{is_marked, counts_to}
use Rattle.am_clause.proofs.ancestry.counted.Given as goal

-- the rows so far are counted, and they are no more than there were
abbrev pub invariant-loop-i : goal.invariant-loop-i
invariant-loop-i l = (l.numbers ≡ counts_to (is_marked l.flags) l.i) × (l.count ≡ count_to (is_marked l.flags) l.i) × (l.count ≤ l.i)
