use Rattle.std.proofs.Common.{◌≡◌, false, take}
use Rattle.std.specs.List.{list_any}
use Rattle.am_clause.specs.Tautology.{is_identity}
use Rattle.am_clause.proofs.tautology.has_identity.Given as goal

-- none so far is an identity
abbrev pub invariant-loop-literal : goal.invariant-loop-literal
invariant-loop-literal l = list_any is_identity (take l.literal-index l.literals) ≡ false
