use Rattle.std.proofs.Common.{◌≡◌, ◌++◌, ◌∷◌, take}
use Rattle.am_sharing.proofs.binding.followed.Given as goal

-- the rest so far
abbrev pub invariant-loop-next : goal.invariant-loop-next
invariant-loop-next l = l.all ≡ l.fn.made ++ l.fn.pair ∷ take l.next-index l.rest
