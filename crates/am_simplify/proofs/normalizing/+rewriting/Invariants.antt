use Rattle.std.proofs.Common.{◌≡◌, ◌+◌, ◌*◌, ◌≤◌, length}
use Rattle.am_term.specs.Weight.{nodes}
use Rattle.am_simplify.specs.Frames.{path_of}
use Rattle.am_simplify.specs.NormalStep.{rewrite_at}
use Rattle.am_simplify.specs.Numbering.{find_map}
use Rattle.am_simplify.specs.Places.{places_all}
use Rattle.am_simplify.specs.Standing.{AreArguments}
use Rattle.am_simplify.proofs.Runs.{terms_size}
use Rattle.am_simplify.proofs.normalizing.+rewriting.Given as goal

-- what is left stands where it is looked at, and decides
abbrev pub invariant-rewrite_all-loop-rest : goal.invariant-rewrite_all-loop-rest
invariant-rewrite_all-loop-rest l = record {
  size : terms_size l.rest ≤ terms_size l.terms;
  stand : AreArguments l.clause l.i (path_of l.path) l.k l.rest;
  decides : find_map (rewrite_at l.ctx.sig.now l.ctx.ins.now l.units l.clause l.i) (places_all 1 l.terms (path_of l.path)) ≡ find_map (rewrite_at l.ctx.sig.now l.ctx.ins.now l.units l.clause l.i) (places_all l.k l.rest (path_of l.path));
}

abbrev pub decreases-rewrite_term : goal.decreases-rewrite_term
decreases-rewrite_term l = 2 * nodes l.term.now

abbrev pub decreases-rewrite_all : goal.decreases-rewrite_all
decreases-rewrite_all l = 2 * terms_size l.terms.now + 1

abbrev pub decreases-rewrite_all-loop-rest : goal.decreases-rewrite_all-loop-rest
decreases-rewrite_all-loop-rest l = length l.rest
