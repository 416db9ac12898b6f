-- Numbering by first occurrence, told in one walk over the occurrences: each variable has a number that was given with its
-- sort before, or the next number.
use Rattle.std.specs.Prelude.{◌++◌, ◌==◌, List, [], ◌∷◌, Option, Some, None, length, slice_get, if◌then◌else◌}
use Rattle.am_term.specs.declared.id.SortId.{SortId}
use Rattle.am_clause.specs.Variables.{Variable}

-- the sorts of the numbers given so far after one more variable, where its number has this sort or isn't given yet
abbrev pub walk_one : List SortId → Variable → Option SortId → Option (List SortId)
walk_one seen v None = if v.0 == length seen then Some (seen ++ v.1 ∷ []) else None
walk_one seen v (Some s) = if s.0 == v.1.0 then Some seen else None

-- going on, where the walk didn't end
abbrev pub walk_from : Option (List SortId) → (List SortId → Option (List SortId)) → Option (List SortId)
walk_from None next = None
walk_from (Some seen) next = next seen

-- the sorts of the numbers after these variables, and none where one has another number than it should
abbrev pub walk : List SortId → List Variable → Option (List SortId)
walk seen [] = Some seen
walk seen (v ∷ vs) = walk_from (walk_one seen v (slice_get seen v.0)) (λ more. walk more vs)
