use Rattle.std.proofs.Common.{◌≡◌, drop}
use Rattle.am_term.specs.Place.{place}
use Rattle.am_term.proofs.places.at.Given as goal

-- what is left of the path leads from here to the same part
abbrev pub invariant-loop-step : goal.invariant-loop-step
invariant-loop-step l = place l.path l.fn.term ≡ place (drop l.step-index l.path) l.here
