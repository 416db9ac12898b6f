use Rattle.std.proofs.Common.{◌≡◌, take}
use Rattle.am_clause.specs.Renaming.{places_in}
use Rattle.am_rules.specs.Row.{renamed_lists}
use Rattle.am_rules.proofs.rows.rename_lists.Given as goal

-- the lists so far, renamed
abbrev pub invariant-loop-terms : goal.invariant-loop-terms
invariant-loop-terms l = l.made ≡ renamed_lists (places_in l.seen) (take l.terms-index l.lists)
