use Rattle.std.proofs.Common.{◌≡◌, map, take}
use Rattle.am_clause.specs.Bounded.{plain}
use Rattle.am_clause.specs.Renaming.{renumbered}
use Rattle.am_clause.proofs.clausal.finish_all.Given as goal

-- the clauses so far
abbrev pub invariant-loop-literals : goal.invariant-loop-literals
invariant-loop-literals l = l.made ≡ map (λ ls. renumbered (plain ls)) (take l.literals-index l.lists)
