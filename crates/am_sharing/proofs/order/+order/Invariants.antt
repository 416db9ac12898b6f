use Rattle.std.proofs.Common.{◌≡◌, ◌+◌, ◌*◌, true, false, take}
use Rattle.am_sharing.specs.Terms.{some_reaches, exceeds_all}
use Rattle.am_sharing.specs.Bound.{id_bound}
use Rattle.am_sharing.proofs.order.+order.Given as goal

abbrev pub decreases-greater : goal.decreases-greater
decreases-greater l = 2 * (l.s.0 + l.t.0) + 1

abbrev pub decreases-reaches : goal.decreases-reaches
decreases-reaches l = 2 * (id_bound l.terms.now + l.t.0)

abbrev pub decreases-exceeds : goal.decreases-exceeds
decreases-exceeds l = 2 * (l.s.0 + id_bound l.terms.now)

-- no term so far reaches
abbrev pub invariant-reaches-loop-term : goal.invariant-reaches-loop-term
invariant-reaches-loop-term l = some_reaches l.sig l.bank (take l.term-index l.terms) l.t.0 ≡ false

-- each term so far is exceeded
abbrev pub invariant-exceeds-loop-term : goal.invariant-exceeds-loop-term
invariant-exceeds-loop-term l = exceeds_all l.sig l.bank l.s.0 (take l.term-index l.terms) ≡ true
