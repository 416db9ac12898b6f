use Rattle.std.proofs.Common.{◌≡◌, map, take}
use Rattle.std.specs.List.{fold}
use Rattle.am_plan.specs.Fingerprints.{mix, fingerprint}
use Rattle.am_plan.proofs.fingerprinting.+fingerprinting.Given as goal

-- the fingerprints of the terms so far are mixed in
abbrev pub invariant-fingerprint_over-loop-term : goal.invariant-fingerprint_over-loop-term
invariant-fingerprint_over-loop-term l = l.fingerprint ≡ fold mix l.initial.fingerprint (map fingerprint (take l.term-index l.terms))
