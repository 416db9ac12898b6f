use Rattle.std.proofs.Common.{arith}
use Rattle.std.proofs.lemmas.Grind.{common_steps}
use Rattle.am_check.proofs.RowTests.{passed-sorted, unsorted, no-bad}
use Rattle.am_check.proofs.refuting.is_proof.Goals as goal

pub returns-then-not-are_sorted : goal.returns-then-not-are_sorted
returns-then-not-are_sorted c = unsorted c.args.theory.now c.args.diagram.now c.args.rows.now (grind (arith, common_steps))

pub first_bad-requires-clause-sorted : goal.first_bad-requires-clause-sorted
first_bad-requires-clause-sorted c = passed-sorted c.args.theory.now c.args.diagram.now c.args.rows.now (grind (arith, common_steps))

pub returns : goal.returns
returns c = let n = no-bad c.args.theory.now c.args.diagram.now c.args.rows.now c.in_ok-bad.bad c.in_ok-bad.ensures in grind (arith, common_steps, n)
