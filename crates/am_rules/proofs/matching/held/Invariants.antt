use Rattle.std.proofs.Common.{◌≡◌, drop}
use Rattle.am_unify.specs.Matching.{held}
use Rattle.am_rules.proofs.matching.held.Given as goal

-- what is left decides
abbrev pub invariant-loop-binding : goal.invariant-loop-binding
invariant-loop-binding l = held l.found l.n l.term ≡ held (drop l.binding-index l.found) l.n l.term
