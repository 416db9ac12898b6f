use Rattle.std.proofs.Common.{◌≡◌, map, take}
use Rattle.am_theory.specs.Contents.{contents}
use Rattle.am_canon.specs.CanonicalText.{typed_output}
use Rattle.am_canon.proofs.declarations.typed_outputs.Given as goal

-- the outputs so far, with their sorts
abbrev pub invariant-loop-output : goal.invariant-loop-output
invariant-loop-output l = l.all ≡ map (typed_output (contents l.theory)) (take l.output-index l.outputs)
