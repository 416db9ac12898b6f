use Rattle.std.proofs.Common.{◌≡◌, List, ℕ, drop}
use Rattle.std.specs.Prelude.{◌||◌}
use Rattle.am_term.specs.NameLists.{is_among}
use Rattle.am_theory.specs.Faults.{names_in}
use Rattle.am_theory.proofs.adding.with_variables.Given as goal

abbrev pub invariant-loop-one : goal.invariant-loop-one
invariant-loop-one l = (q : List ℕ) → (is_among q (names_in (drop l.one-index l.typed)) || is_among q l.variables.names) ≡ (is_among q (names_in l.typed) || is_among q l.fn.variables.names)
