use Rattle.am_clause.specs.Variables.{variables}
use Rattle.am_rules.specs.Resolution.{resolvent}
use Rattle.am_rules.specs.Solving.{images}
use Rattle.am_rules.proofs.Resolved.{images-read, made-read}
use Rattle.am_rules.proofs.resolving.resolved_by.Goals as goal

pub returns : goal.returns
returns c = made-read (resolvent c.args.p.now c.args.i c.args.q.now c.args.j) (images c.args.found.now.0 0 (variables c.args.p.now)) (images c.args.found.now.0 c.args.k (variables c.args.q.now))
    c.in_ok-left.left c.in_ok-right.right c.made_of.result
    (images-read c.args.found.now.0 c.as_slice.result.now 0 (variables c.args.p.now) c.in_ok-p_variables.p_variables c.as_slice-2.result.now c.in_ok-left.left
    c.as_slice.ensures c.as_slice-2.ensures c.in_ok-p_variables.ensures c.in_ok-left.ensures)
    (images-read c.args.found.now.0 c.as_slice-3.result.now c.args.k (variables c.args.q.now) c.in_ok-q_variables.q_variables c.as_slice-4.result.now c.in_ok-right.right
    c.as_slice-3.ensures c.as_slice-4.ensures c.in_ok-q_variables.ensures c.in_ok-right.ensures)
    c.made_of.ensures
