use Rattle.std.proofs.Common.{◌≡◌, drop}
use Rattle.am_term.specs.Sorting.{fit_places, sorts_of}
use Rattle.am_check.proofs.sorting.fit.Given as goal

-- what is left decides
abbrev pub invariant-loop-i : goal.invariant-loop-i
invariant-loop-i l = fit_places l.ctx.sig.now (sorts_of l.ctx.sig.now l.ctx.ins.now l.terms) l.places ≡ fit_places l.ctx.sig.now (sorts_of l.ctx.sig.now l.ctx.ins.now (drop l.i l.terms)) (drop l.i l.places)
