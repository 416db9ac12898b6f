use Rattle.std.specs.List.{sum_by}
use Rattle.std.proofs.Common.{◌≡◌, ◌+◌, ◌*◌, true, false, take}
use Rattle.am_order.specs.Cases.{some_reaches, exceeds_all}
use Rattle.am_term.specs.Weight.{nodes}
use Rattle.am_order.proofs.order.+order.Given as goal

abbrev pub decreases-greater : goal.decreases-greater
decreases-greater l = 2 * (nodes l.s.now + nodes l.t.now)

abbrev pub decreases-reaches : goal.decreases-reaches
decreases-reaches l = 2 * (sum_by nodes l.terms.now + nodes l.t.now) + 1

abbrev pub decreases-exceeds : goal.decreases-exceeds
decreases-exceeds l = 2 * (nodes l.s.now + sum_by nodes l.terms.now) + 1

-- no term so far reaches
abbrev pub invariant-reaches-loop-term : goal.invariant-reaches-loop-term
invariant-reaches-loop-term l = some_reaches l.sig (take l.term-index l.terms) l.t ≡ false

-- each term so far is exceeded
abbrev pub invariant-exceeds-loop-term : goal.invariant-exceeds-loop-term
invariant-exceeds-loop-term l = exceeds_all l.sig l.s (take l.term-index l.terms) ≡ true
