use Rattle.std.proofs.Common.{◌≡◌, drop, map}
use Rattle.am_unify.specs.Matching.{match_all, matched}
use Rattle.am_rules.proofs.matching.+matching.Given as goal

-- what is left decides
abbrev pub invariant-extended_all-loop-i : goal.invariant-extended_all-loop-i
invariant-extended_all-loop-i l = match_all (map (matched l.ctx.sig.now l.ctx.ins.now) l.patterns) l.terms l.fn.found ≡ match_all (map (matched l.ctx.sig.now l.ctx.ins.now) (drop l.i l.patterns)) (drop l.i l.terms) l.found
