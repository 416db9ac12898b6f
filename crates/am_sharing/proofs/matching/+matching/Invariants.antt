use Rattle.std.proofs.Common.{◌≡◌, ◌≤◌, ◌+◌, ◌*◌, drop, map, length}
use Rattle.std.specs.Prelude.{nat_eq}
use Rattle.std.specs.HashMap.{get}
use Rattle.am_unify.specs.Matching.{match_all, matched}
use Rattle.am_sharing.specs.Bound.{id_bound}
use Rattle.am_sharing.specs.Pairs.{pairs_at, pairs_bound}
use Rattle.am_sharing.specs.Settled.{AreSettled}
use Rattle.am_sharing.specs.SortTable.{IsSortTable}
use Rattle.am_sharing.specs.Terms.{terms_at}
use Rattle.am_sharing.proofs.matching.+matching.Given as goal

abbrev pub decreases-extended : goal.decreases-extended
decreases-extended l = 3 * l.pattern.0 + 2

abbrev pub decreases-extended_application : goal.decreases-extended_application
decreases-extended_application l = 3 * id_bound l.head.1.now + 1

abbrev pub decreases-extended_all : goal.decreases-extended_all
decreases-extended_all l = 3 * id_bound l.patterns.now

-- the table is one of sorts, what was matched is settled, and what is left decides
abbrev pub invariant-extended_all-loop-i : goal.invariant-extended_all-loop-i
invariant-extended_all-loop-i l =
    IsSortTable l.ctx.sig.now l.ctx.ins.now l.bank l.table
    × AreSettled l.ctx.sig.now l.ctx.ins.now l.bank (pairs_at l.bank l.found) (get nat_eq l.settled)
    × (pairs_bound l.found ≤ length l.bank)
    × (match_all (map (matched l.ctx.sig.now l.ctx.ins.now) (terms_at l.bank l.patterns)) (terms_at l.bank l.terms) (pairs_at l.bank l.fn.found) ≡ match_all (map (matched l.ctx.sig.now l.ctx.ins.now) (terms_at l.bank (drop l.i l.patterns))) (terms_at l.bank (drop l.i l.terms)) (pairs_at l.bank l.found))
