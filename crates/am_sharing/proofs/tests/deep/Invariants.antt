use Rattle.std.proofs.Common.{◌<◌, ◌≤◌, length}
use Rattle.am_sharing.proofs.tests.deep.Given as goal

-- the bank has the id, and what it had
abbrev pub invariant-loop-level : goal.invariant-loop-level
invariant-loop-level l = (l.id.0 < length l.bank) × (length l.fn.bank ≤ length l.bank)
