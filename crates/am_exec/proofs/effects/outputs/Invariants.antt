use Rattle.std.proofs.Common.{◌≡◌, length, ◌++◌, map}
use Rattle.am_term.specs.declared.id.SymId.{SymId}
use Rattle.am_term.specs.declared.term.Term.TheVariants.{App}
use Rattle.am_exec.specs.Run.{name_in}
use Rattle.am_exec.specs.States.{entries_held}
use Rattle.am_exec.proofs.effects.outputs.Given as goal

-- what was made, with what is left, is all
abbrev pub invariant-loop-left : goal.invariant-loop-left
invariant-loop-left l = l.made ++ entries_held (map name_in l.rest) (map (λ (f : SymId). App f l.args) l.left) ≡ entries_held (map name_in l.targets) (map (λ (f : SymId). App f l.args) l.outputs)

abbrev pub decreases-loop-left : goal.decreases-loop-left
decreases-loop-left l = length l.left
