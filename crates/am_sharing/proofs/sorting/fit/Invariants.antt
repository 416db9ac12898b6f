use Rattle.std.proofs.Common.{◌≡◌, drop}
use Rattle.am_term.specs.Sorting.{fit_places}
use Rattle.am_sharing.specs.SortTable.{sorts_in_table}
use Rattle.am_sharing.proofs.sorting.fit.Given as goal

-- what is left decides
abbrev pub invariant-loop-i : goal.invariant-loop-i
invariant-loop-i l = fit_places l.sig (sorts_in_table l.table l.ids) l.places ≡ fit_places l.sig (sorts_in_table l.table (drop l.i l.ids)) (drop l.i l.places)
