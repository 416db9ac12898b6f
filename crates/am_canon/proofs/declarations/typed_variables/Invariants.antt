use Rattle.std.proofs.Common.{◌≡◌, map, take}
use Rattle.am_theory.specs.Contents.{contents}
use Rattle.am_canon.specs.CanonicalText.{typed_variable}
use Rattle.am_canon.proofs.declarations.typed_variables.Given as goal

-- the variables so far, with their sorts
abbrev pub invariant-loop-variable : goal.invariant-loop-variable
invariant-loop-variable l = l.all ≡ map (typed_variable (contents l.theory)) (take l.variable-index l.variables)
