use Rattle.std.proofs.Common.{◌≡◌}
use Rattle.am_clause.proofs.Merges.{adding_to}
use Rattle.am_clause.proofs.merging.add_new.Given as goal

-- the literals so far, added to what was kept
abbrev pub invariant-loop-literal : goal.invariant-loop-literal
invariant-loop-literal l = l.made ≡ adding_to l.literal-index l.fn.kept l.literals
