-- the best of what is left, from here, is the best of all
use Rattle.std.specs.Prelude.{◌≡◌, ◌+◌, length, ◌<◌}
use Rattle.am_agenda.specs.Picks.{best_from, is_lighter, lightest_place}
use Rattle.am_agenda.proofs.best.lightest.Given as goal

abbrev pub invariant-loop-rest : goal.invariant-loop-rest
invariant-loop-rest l = record {
  best : best_from is_lighter l.place l.best l.at l.rest ≡ lightest_place l.rows;
  at : l.at + length l.rest ≡ length l.rows;
  place : l.place < l.at;
}

abbrev pub decreases-loop-rest : goal.decreases-loop-rest
decreases-loop-rest l = length l.rest
