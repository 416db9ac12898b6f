use Rattle.std.specs.List.{sum_by}
use Rattle.std.proofs.Common.{◌≡◌, ◌+◌, ◌*◌, true, false, take, drop}
use Rattle.am_order.specs.Cases.{some_reaches, exceeds_all, first_greater}
use Rattle.am_term.specs.Weight.{nodes}
use Rattle.am_order.proofs.plain.+plain.Given as goal

abbrev pub decreases-greater_plain : goal.decreases-greater_plain
decreases-greater_plain l = 2 * (nodes l.s.now + nodes l.t.now)

abbrev pub decreases-reaches : goal.decreases-reaches
decreases-reaches l = 2 * (sum_by nodes l.terms.now + nodes l.t.now) + 1

abbrev pub decreases-exceeds : goal.decreases-exceeds
decreases-exceeds l = 2 * (nodes l.s.now + sum_by nodes l.terms.now) + 1

abbrev pub decreases-first : goal.decreases-first
decreases-first l = 2 * (sum_by nodes l.terms.now + sum_by nodes l.others.now) + 1

-- no term so far reaches
abbrev pub invariant-reaches-loop-term : goal.invariant-reaches-loop-term
invariant-reaches-loop-term l = some_reaches l.sig (take l.term-index l.terms) l.t ≡ false

-- each term so far is exceeded
abbrev pub invariant-exceeds-loop-term : goal.invariant-exceeds-loop-term
invariant-exceeds-loop-term l = exceeds_all l.sig l.s (take l.term-index l.terms) ≡ true

-- what is left decides
abbrev pub invariant-first-loop-i : goal.invariant-first-loop-i
invariant-first-loop-i l = first_greater l.sig l.terms l.others ≡ first_greater l.sig (drop l.i l.terms) (drop l.i l.others)
