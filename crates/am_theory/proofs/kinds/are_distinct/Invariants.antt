use Rattle.std.proofs.Common.{◌≡◌, drop}
use Rattle.am_term.specs.NameLists.{are_distinct}
use Rattle.am_theory.specs.Faults.{names_in}
use Rattle.am_theory.specs.Additions.{are_new}
use Rattle.am_theory.proofs.kinds.are_distinct.Given as goal

abbrev pub invariant-loop-one : goal.invariant-loop-one
invariant-loop-one l = are_new l.seen.names (drop l.one-index l.typed) ≡ are_distinct (names_in l.typed)
