use Rattle.std.proofs.Common.{◌≡◌, min, take}
use Rattle.std.specs.List.{sum_by}
use Rattle.am_term.specs.Instance.{instance_literals}
use Rattle.am_term.specs.declared.term.Literal.{Literal}
use Rattle.am_clause.specs.Size.{atom_weight}
use Rattle.am_calculus.proofs.sizing.instance_size.Given as goal

-- the nodes of the instances of the literals so far
abbrev pub invariant-loop-literal : goal.invariant-loop-literal
invariant-loop-literal l = l.total ≡ min (sum_by (λ (m : Literal). atom_weight m.atom) (instance_literals l.with.terms.now (take l.literal-index l.literal-items))) 16777217
