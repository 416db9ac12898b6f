use Rattle.std.proofs.Common.{◌≡◌, length}
use Rattle.std.specs.List.{flat_map}
use Rattle.am_term.specs.NameLists.{is_among}
use Rattle.am_theory.specs.Lookups.{copy_names, listed_name}
use Rattle.am_theory.proofs.lookups.is_copy.Given as goal

-- what is left decides
abbrev pub invariant-loop-rest : goal.invariant-loop-rest
invariant-loop-rest l = is_among l.name (copy_names l.theory) ≡ is_among l.name (flat_map listed_name l.rest)

abbrev pub decreases-loop-rest : goal.decreases-loop-rest
decreases-loop-rest l = length l.rest
