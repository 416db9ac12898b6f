use Rattle.am_bank.proofs.EqualTrees.{equal_trees}
use Rattle.am_bank.proofs.laws.law_of_equal_trees.Goals as goal

pub returns : goal.returns
returns c = equal_trees
