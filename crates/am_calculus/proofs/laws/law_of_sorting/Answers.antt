use Rattle.am_calculus.proofs.SortedInstances.{bound-sorted}
use Rattle.am_calculus.proofs.SortedMade.{merged-sorted, reflex-sorted, resolve-sorted}
use Rattle.am_calculus.proofs.laws.law_of_sorting.Goals as goal

pub returns : goal.returns
returns c = record { bound = bound-sorted; merged = merged-sorted; reflex = reflex-sorted; resolve = resolve-sorted }
