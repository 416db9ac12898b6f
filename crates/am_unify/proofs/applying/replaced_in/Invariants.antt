use Rattle.std.proofs.Common.{◌≡◌, take}
use Rattle.am_unify.specs.Substitution.{replace_in}
use Rattle.am_unify.proofs.applying.replaced_in.Given as goal

-- the pairs so far, with the variable replaced
abbrev pub invariant-loop-pair : goal.invariant-loop-pair
invariant-loop-pair l = l.made ≡ replace_in l.n l.by (take l.pair-index l.pairs)
