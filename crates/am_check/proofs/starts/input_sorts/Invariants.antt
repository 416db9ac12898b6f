use Rattle.std.proofs.Common.{◌≡◌, take}
use Rattle.am_diagram.specs.Listed.{entry_sorts}
use Rattle.am_check.proofs.starts.input_sorts.Given as goal

-- the sorts so far
abbrev pub invariant-loop-input : goal.invariant-loop-input
invariant-loop-input l = l.sorts ≡ entry_sorts (take l.input-index l.diagram.inputs)
