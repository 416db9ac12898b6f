use Rattle.std.proofs.Common.{◌≡◌, length}
use Rattle.am_plan.specs.Names.{name_of_term}
use Rattle.am_plan.proofs.named_terms.listed_name.Given as goal

-- what is left decides
abbrev pub invariant-loop-rest : goal.invariant-loop-rest
invariant-loop-rest l = name_of_term l.entries l.term ≡ name_of_term l.rest l.term

abbrev pub decreases-loop-rest : goal.decreases-loop-rest
decreases-loop-rest l = length l.rest
