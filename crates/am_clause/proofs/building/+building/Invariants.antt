use Rattle.std.proofs.Common.{◌≡◌, ◌+◌, ◌*◌, take}
use Rattle.std.specs.List.{sum_by}
use Rattle.am_clause.specs.Bounded.{bounded}
use Rattle.am_clause.specs.Forms.{forms, forms_product}
use Rattle.am_clause.proofs.Sizes.{size}
use Rattle.am_clause.proofs.building.+building.Given as goal

-- the clauses of the parts so far
abbrev pub invariant-join_all-loop-part : goal.invariant-join_all-loop-part
invariant-join_all-loop-part l = l.made ≡ bounded l.most (forms l.positive (take l.part-index l.parts))

-- their product so far
abbrev pub invariant-multiply_all-loop-part : goal.invariant-multiply_all-loop-part
invariant-multiply_all-loop-part l = l.made ≡ bounded l.most (forms_product l.positive (take l.part-index l.parts))

abbrev pub decreases-build : goal.decreases-build
decreases-build l = 2 * size l.formula.now

abbrev pub decreases-pair : goal.decreases-pair
decreases-pair l = 2 * (size l.left.now + size l.right.now) + 1

abbrev pub decreases-join_all : goal.decreases-join_all
decreases-join_all l = 2 * sum_by size l.parts.now + 1

abbrev pub decreases-multiply_all : goal.decreases-multiply_all
decreases-multiply_all l = 2 * sum_by size l.parts.now + 1
