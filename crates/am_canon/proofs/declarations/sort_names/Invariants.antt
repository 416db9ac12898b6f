use Rattle.std.proofs.Common.{◌≡◌, map, take}
use Rattle.am_theory.specs.Contents.{contents}
use Rattle.am_canon.specs.CanonicalText.{sort_name}
use Rattle.am_canon.proofs.declarations.sort_names.Given as goal

-- the sorts so far, by their names
abbrev pub invariant-loop-sort : goal.invariant-loop-sort
invariant-loop-sort l = l.names ≡ map (sort_name (contents l.theory)) (take l.sort-index l.sorts)
