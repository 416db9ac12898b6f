use Rattle.am_clause.proofs.Marking.{Marking}
use Rattle.am_clause.proofs.ancestry.marked.Given as goal

-- the rows behind those that are left are done
abbrev pub invariant-loop-left : goal.invariant-loop-left
invariant-loop-left l = Marking l.rows l.last l.left l.flags

abbrev pub decreases-loop-left : goal.decreases-loop-left
decreases-loop-left l = l.left
