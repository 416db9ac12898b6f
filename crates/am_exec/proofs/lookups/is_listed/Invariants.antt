use Rattle.std.proofs.Common.{◌≡◌, length}
use Rattle.am_term.specs.NameLists.{is_among}
use Rattle.am_diagram.specs.Listed.{entry_names}
use Rattle.am_exec.proofs.lookups.is_listed.Given as goal

-- what is left decides
abbrev pub invariant-loop-rest : goal.invariant-loop-rest
invariant-loop-rest l = is_among l.name (entry_names l.list) ≡ is_among l.name (entry_names l.rest)

abbrev pub decreases-loop-rest : goal.decreases-loop-rest
decreases-loop-rest l = length l.rest
