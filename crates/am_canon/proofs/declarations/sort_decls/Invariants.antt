use Rattle.std.proofs.Common.{◌≡◌, ◌++◌, length}
use Rattle.am_theory.specs.Contents.{contents}
use Rattle.am_canon.specs.CanonicalText.{sort_decls}
use Rattle.am_canon.proofs.declarations.sort_decls.Given as goal

-- what was made, and what is left, is all
abbrev pub invariant-loop-names : goal.invariant-loop-names
invariant-loop-names l = l.made ++ sort_decls (contents l.theory) l.names l.parents l.reps l.copies ≡ sort_decls (contents l.theory) l.theory.sig.sorts l.theory.sig.parents l.theory.reps l.theory.copies

abbrev pub decreases-loop-names : goal.decreases-loop-names
decreases-loop-names l = length l.names
