use Rattle.std.proofs.Common.{◌≡◌, take}
use Rattle.am_clause.specs.Ancestors.{kept_from}
use Rattle.am_clause.specs.Marks.{is_marked, new_number}
use Rattle.am_clause.proofs.ancestry.kept.Given as goal

-- those of the rows so far that stay
abbrev pub invariant-loop-i : goal.invariant-loop-i
invariant-loop-i l = l.made ≡ kept_from (is_marked l.flags) (new_number l.numbers) 1 (take l.i l.rows)
