use Rattle.std.proofs.Common.{[], ◌∷◌, take}
use Rattle.std.specs.Prelude.{nat_eq}
use Rattle.std.specs.HashMap.{get}
use Rattle.am_shared_unify.specs.Sides.{listed_at}
use Rattle.am_shared_unify.proofs.Becoming.{Replaced}
use Rattle.am_shared_unify.proofs.applying.replaced_in.Given as goal

-- what the pairs became so far
abbrev pub invariant-loop-pair : goal.invariant-loop-pair
invariant-loop-pair l =
    Replaced l.fn.bank l.bank (listed_at l.fn.bank ((l.fn.n, l.fn.by) ∷ [])) (get nat_eq l.images) (take l.pair-index l.pairs) l.made
