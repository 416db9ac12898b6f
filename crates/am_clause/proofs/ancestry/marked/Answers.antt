use Rattle.std.proofs.Common.{◌≡◌, arith}
use Rattle.am_clause.proofs.Marking.{marking-begins, marking-goes, marking-done}
use Rattle.am_clause.proofs.ancestry.marked.Goals as goal

pub loop-left-init : goal.loop-left-init
loop-left-init c = marking-begins c.args.rows.now c.args.last c.in_ok-flags.flags c.requires.from_one c.in_ok-flags.ensures

pub loop-left-preserved : goal.loop-left-preserved
loop-left-preserved c =
    marking-goes c.args.rows.now c.requires.ordered c.args.last c.loop-left.left c.loop-left.flags c.step.new.flags c.loop-left.invariant c.loop-left-test.true c.step.ensures

pub returns : goal.returns
returns c =
    let ends : c.loop-left.left ≡ 0 = omega (arith, c.loop-left-test.false) in
    marking-done c.args.rows.now c.requires.ordered c.args.last c.loop-left.left c.loop-left.flags c.loop-left.invariant ends
