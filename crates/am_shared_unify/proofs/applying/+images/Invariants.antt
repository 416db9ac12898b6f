use Rattle.std.proofs.Common.{◌+◌, ◌*◌, take}
use Rattle.std.specs.Prelude.{nat_eq}
use Rattle.std.specs.HashMap.{get}
use Rattle.am_sharing.specs.Bound.{id_bound}
use Rattle.am_shared_unify.specs.Sides.{listed_at}
use Rattle.am_shared_unify.proofs.Becoming.{Became}
use Rattle.am_shared_unify.proofs.applying.+images.Given as goal

abbrev pub decreases-image : goal.decreases-image
decreases-image l = 3 * l.id.0 + 2

abbrev pub decreases-new_image : goal.decreases-new_image
decreases-new_image l = 3 * l.id.0 + 1

abbrev pub decreases-image_all : goal.decreases-image_all
decreases-image_all l = 3 * id_bound l.ids.now

-- what the ids became so far
abbrev pub invariant-image_all-loop-id : goal.invariant-image_all-loop-id
invariant-image_all-loop-id l =
    Became l.fn.bank l.bank (listed_at l.fn.bank l.found) (get nat_eq l.images) (take l.id-index l.ids) l.made.items
