use Rattle.std.proofs.Common.{length}
use Rattle.am_calculus.proofs.faulting.+binds.Given as goal

abbrev pub decreases-binds : goal.decreases-binds
decreases-binds l = length l.terms.now
