use Rattle.am_bank.proofs.EqualTrees.{tree-Var, tree-In, tree-App}
use Rattle.am_bank.proofs.Trees.{tree-there, tree-below}
use Rattle.am_bank.proofs.laws.law_of_trees.Goals as goal

pub returns : goal.returns
returns c = record { there = tree-there; within = tree-below; variable = tree-Var; input = tree-In; symbol = tree-App }
