use Rattle.am_search.proofs.Reported.{outcome_ordered, reported}
use Rattle.am_search.proofs.solving.search.Goals as goal

pub report-requires-clause-ordered : goal.report-requires-clause-ordered
report-requires-clause-ordered g c = outcome_ordered c.args.theory.now c.args.diagram.now c.args.limits.weight c.args.limits.budget _ _ _ _ _ _ c.in_ok-ended.ensures

pub returns : goal.returns
returns g c =
    let e = c.in_ok-outcome.ensures in
    reported c.args.theory.now c.args.diagram.now c.args.limits _ _ _ _ _ _ _ c.in_ok-ended.ensures e.end e.entries e.choices e.log
