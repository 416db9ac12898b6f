use Rattle.std.proofs.Common.{length}
use Rattle.am_calculus.proofs.faulting.+one_list.Given as goal

abbrev pub decreases-one_list : goal.decreases-one_list
decreases-one_list l = length l.first.now
