use Rattle.std.proofs.Common.{◌≡◌, take}
use Rattle.am_clause.specs.Renaming.{places_in, renamed_all}
use Rattle.am_rules.proofs.rows.+renaming.Given as goal

-- the terms so far, renamed
abbrev pub invariant-rename_all-loop-term : goal.invariant-rename_all-loop-term
invariant-rename_all-loop-term l = l.made ≡ renamed_all (places_in l.seen) (take l.term-index l.terms)
