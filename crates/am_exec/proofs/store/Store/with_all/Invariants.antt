use Rattle.std.proofs.Common.{◌≡◌, ◌++◌, length}
use Rattle.am_exec.proofs.store.Store.with_all.Given as goal

-- what is stored, with what is left, is all
abbrev pub invariant-pairs : goal.invariant-pairs
invariant-pairs l = l.store ++ l.rest ≡ l.fn.self ++ l.fn.more

abbrev pub decreases-pairs : goal.decreases-pairs
decreases-pairs l = length l.rest
