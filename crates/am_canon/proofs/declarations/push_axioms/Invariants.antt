use Rattle.std.proofs.Common.{◌≡◌, ◌++◌, map, take}
use Rattle.am_theory.specs.Contents.{contents}
use Rattle.am_canon.specs.CanonicalText.{written_axiom}
use Rattle.am_canon.proofs.declarations.push_axioms.Given as goal

-- the axioms so far stand behind what was there
abbrev pub invariant-loop-axiom : goal.invariant-loop-axiom
invariant-loop-axiom l = l.out ≡ l.fn.out ++ map (written_axiom (contents l.theory)) (take l.axiom-index l.theory.axioms)
