use Rattle.std.proofs.Common.{◌≡◌, ◌++◌, length}
use Rattle.am_diagram.specs.Listed.{entry_sorts}
use Rattle.am_search.proofs.solving.input_sorts.Given as goal

-- what was put and what is left are all
abbrev pub invariant-loop-rest : goal.invariant-loop-rest
invariant-loop-rest l = entry_sorts l.inputs ≡ l.sorts ++ entry_sorts l.rest

abbrev pub decreases-loop-rest : goal.decreases-loop-rest
decreases-loop-rest l = length l.rest
