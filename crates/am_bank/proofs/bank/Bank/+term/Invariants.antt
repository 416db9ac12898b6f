use Rattle.std.proofs.Common.{◌≡◌, Some, map, take}
use Rattle.am_bank.specs.Node.{numbers}
use Rattle.am_bank.specs.Trees.{tree}
use Rattle.am_bank.proofs.bank.Bank.+term.Given as goal

abbrev pub decreases-term : goal.decreases-term
decreases-term l = l.id.0

abbrev pub invariant-loop-arg : goal.invariant-loop-arg
invariant-loop-arg l = map (tree l.self) (numbers (take l.arg-index l.arg-items)) ≡ map Some l.made
