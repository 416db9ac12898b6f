use Rattle.std.proofs.Common.{◌≡◌, ◌+◌, ◌*◌, drop}
use Rattle.std.specs.List.{list_any}
use Rattle.std.specs.Prelude.{nat_eq}
use Rattle.std.specs.HashSet.{contains}
use Rattle.am_unify.specs.Occurrence.{number_occurs}
use Rattle.am_sharing.specs.Bound.{id_bound}
use Rattle.am_sharing.specs.Terms.{terms_at}
use Rattle.am_shared_unify.specs.Tables.{AllLack}
use Rattle.am_shared_unify.proofs.occurring.+occurring.Given as goal

abbrev pub decreases-occurs_beyond : goal.decreases-occurs_beyond
decreases-occurs_beyond l = 2 * l.id.0 + 1

abbrev pub decreases-occurs_in_any : goal.decreases-occurs_in_any
decreases-occurs_in_any l = 2 * id_bound l.ids.now

-- what was gone over lacks the number, and what is left decides
abbrev pub invariant-occurs_in_any-loop-id : goal.invariant-occurs_in_any-loop-id
invariant-occurs_in_any-loop-id l =
    AllLack l.bank l.n (contains nat_eq l.seen)
    × (list_any (number_occurs l.n) (terms_at l.bank l.ids) ≡ list_any (number_occurs l.n) (terms_at l.bank (drop l.id-index l.ids)))
