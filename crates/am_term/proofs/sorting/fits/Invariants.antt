use Rattle.std.proofs.Common.{◌≡◌}
use Rattle.am_term.specs.Sorts.{fits}
use Rattle.am_term.proofs.sorting.fits.Given as goal

-- the sort that was reached fits exactly what the first one does
abbrev pub invariant-loop-here : goal.invariant-loop-here
invariant-loop-here l = fits l.sig l.here l.t ≡ fits l.fn.sig l.fn.s l.fn.t

abbrev pub decreases-loop-here : goal.decreases-loop-here
decreases-loop-here l = l.here.0
