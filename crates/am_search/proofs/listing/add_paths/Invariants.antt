-- what was made, and what is left, is all
use Rattle.std.specs.Prelude.{map, length, ◌≡◌, ◌++◌}
use Rattle.am_search.specs.declared.candidate.Candidate.TheVariants.{Para}
use Rattle.am_search.proofs.listing.add_paths.Given as goal

abbrev pub invariant-loop-rest : goal.invariant-loop-rest
invariant-loop-rest l = l.out.items ++ map (Para l.way l.j l.side l.i) l.rest ≡ l.fn.out.items ++ map (Para l.way l.j l.side l.i) l.paths

abbrev pub decreases-loop-rest : goal.decreases-loop-rest
decreases-loop-rest l = length l.rest
