use Rattle.std.proofs.Common.{◌≡◌, ◌++◌, length, map}
use Rattle.am_plan.specs.Fingerprints.{fingerprint}
use Rattle.am_plan.proofs.naming.index_of.Given as goal

-- what was made, with what is left, is all
abbrev pub invariant-loop-rest : goal.invariant-loop-rest
invariant-loop-rest l = l.index ++ map fingerprint l.rest ≡ map fingerprint l.terms

abbrev pub decreases-loop-rest : goal.decreases-loop-rest
decreases-loop-rest l = length l.rest
