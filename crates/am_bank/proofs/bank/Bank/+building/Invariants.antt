use Rattle.std.proofs.Common.{◌≡◌, Some, map, take}
use Rattle.am_bank.specs.Node.{numbers}
use Rattle.am_bank.specs.Bank.{Grows}
use Rattle.am_bank.specs.Trees.{tree}
use Rattle.am_bank.proofs.bank.Bank.+building.Given as goal

abbrev pub invariant-build_all-loop-term : goal.invariant-build_all-loop-term
invariant-build_all-loop-term l =
    Grows l.fn.self l.self × (map (tree l.self) (numbers l.ids.items) ≡ map Some (take l.term-index l.terms))
