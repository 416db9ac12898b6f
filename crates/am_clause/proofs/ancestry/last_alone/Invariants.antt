use Rattle.std.proofs.Common.{◌≡◌}
use Rattle.am_clause.specs.Marks.{falses}
use Rattle.am_clause.proofs.ancestry.last_alone.Given as goal

-- a flag for each row so far
abbrev pub invariant-loop-i : goal.invariant-loop-i
invariant-loop-i l = l.flags ≡ falses l._i
