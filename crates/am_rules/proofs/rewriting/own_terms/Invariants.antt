use Rattle.std.proofs.Common.{◌≡◌, ◌++◌, length}
use Rattle.am_rules.specs.Rewriting.{own_terms}
use Rattle.am_rules.proofs.rewriting.own_terms.Given as goal

-- what was made, and what is left, is all
abbrev pub invariant-terms : goal.invariant-terms
invariant-terms l = own_terms l.variables ≡ l.made ++ own_terms l.rest

abbrev pub decreases-terms : goal.decreases-terms
decreases-terms l = length l.rest
