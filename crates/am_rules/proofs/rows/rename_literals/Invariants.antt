use Rattle.std.proofs.Common.{◌≡◌, map, take}
use Rattle.am_clause.specs.Renaming.{places_in, renamed_literal}
use Rattle.am_rules.proofs.rows.rename_literals.Given as goal

-- the literals so far, renamed
abbrev pub invariant-loop-literal : goal.invariant-loop-literal
invariant-loop-literal l = l.made ≡ map (renamed_literal (places_in l.seen)) (take l.literal-index l.literals)
